-- `riders::standing::survey` meets its contract: the loop's invariant is that the first j orders are counted and looked at. Assumes nothing.
use borrow.Author.Rules.{rules}
use mathlib.Core.Path.{ap, ◌∙◌}
use Prim.Native.Nat.{min}
use native.Mathlib.Omega.{arith}
use lib.ListN.{length-set}
use Rattle.numbers.specs.Counting.{at}
use Rattle.riders.proofs.CountedLaws.{few_ride}
use Rattle.riders.proofs.StepLaws.{counted_start, counted_more, lowest_start, lowest_more}
use Rattle.riders.proofs.standing.survey.Goals as goal

pub loop-j-init : goal.loop-j-init
loop-j-init c = (counted_start _ c.requires.train_len, search rules, lowest_start (at c.args.release.now) c.args.train.now)

pub overflow_add-riders : goal.overflow_add-riders
overflow_add-riders c =
    let rides = c.requires.n_le_most.2 c.loop-j.j (omega arith) in
    omega (arith, few_ride _ _ _ c.loop-j.invariant.0 (omega (arith, c.requires.n_le_most.0)) _ rides)

pub loop-j-preserved : goal.loop-j-preserved
loop-j-preserved c =
    let a = c.args in
    let within_range = c.requires.n_le_most.2 c.loop-j.j (omega arith) in (
      counted_more a.train.now c.loop-j.riders c.loop-j.j within_range c.loop-j.invariant.0,
      length-set c.loop-j.low _ c.min.result ∙ c.loop-j.invariant.1,
      lowest_more (at a.release.now) a.train.now c.loop-j.low c.loop-j.j c.min.result c.loop-j.invariant.1 within_range
          (c.min.ensures ∙ ap (min _) c.standing_of-own.ensures) c.loop-j.invariant.2,
    )
