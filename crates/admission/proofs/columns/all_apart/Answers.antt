-- `columns::all_apart` meets its contract: `all` is the test of the places passed. Assumes nothing.
use native.Mathlib.Omega.{arith}
use Rattle.std.proofs.Common.{◌≡◌, ◌+◌, ◌-◌}
use Rattle.numbers.specs.CountingLaws.{every_start, every_more}
use Rattle.admission.proofs.columns.all_apart.Goals as goal

pub loop-k-init : goal.loop-k-init
loop-k-init c = let e : c.args.ahead - c.args.ahead ≡ 0 = omega arith in (omega arith, rw e (every_start _))

pub loop-k-preserved : goal.loop-k-preserved
loop-k-preserved c =
    let l = c.loop-k in
    let ahead = c.args.ahead in
    let more : l.k + 1 - ahead ≡ l.k - ahead + 1 = omega arith in
    let place : l.k - ahead + ahead ≡ l.k = omega arith in
    (omega arith, rw (more, every_more, ← l.invariant.1, place, c.from-in-loop-k.ensures, c.from.ensures))

pub returns : goal.returns
returns c =
    let end : c.loop-k.k - c.args.ahead ≡ c.args.count - c.args.ahead = omega arith in
    rw end at c.loop-k.invariant.1
