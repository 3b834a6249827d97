-- At the end every place is passed.
use Rattle.std.proofs.Common.{◌≡◌, refl, arith}
use Rattle.std.proofs.Math.Bool.{and_assoc}
use Rattle.numbers.specs.Counting.{every}
use Rattle.numbers.specs.CountingLaws.{every_more}
use Rattle.model.specs.Limits.{order_counts}
use Rattle.foreign.specs.Gathered.{column_in}
use Rattle.foreign.proofs.fit.fits_from.Goals as goal

pub loop-j-init : goal.loop-j-init
unfolding every
loop-j-init c = refl

pub loop-j-preserved : goal.loop-j-preserved
loop-j-preserved c =
    let l = c.loop-j in
    rw (every_more, c.fits_at-fit.ensures, l.invariant, and_assoc)

pub returns : goal.returns
unfolding column_in
returns c = let l = c.loop-j in let e : l.j ≡ order_counts.most = omega arith in rw e at l.invariant
