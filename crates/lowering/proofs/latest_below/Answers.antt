-- `lowering::latest_below` meets its contract: the loop's invariant is that the search from k gives what the search from the present train gives.
-- Assumes nothing.
use Rattle.std.proofs.Common.{◌≡◌, ◌∙◌, arith, to_z-of_z, w64}
use Rattle.numbers.specs.Counting.{nth}
use Rattle.lowering.proofs.LoweringStepLaws.{latest_found, latest_passed, latest_none}
use Rattle.lowering.proofs.latest_below.Goals as goal

pub loop-k-preserved : goal.loop-k-preserved
loop-k-preserved c =
    let a = c.args in
    let k = c.loop-k.k in
    let y_is = to_z-of_z {w = w64} c.ranges.y in
    let late_is = to_z-of_z {w = w64} {z = c.lateness_on.result} (record { sfits = c.lateness_on.type_inv }) in
    let tested = rw (late_is, y_is, c.lateness_on.ensures) at c.if-lateness_on-y.false in
    rw y_is (latest_passed a.weight a.due (nth a.arrival.now) a.y k (omega arith) tested ∙ (rw y_is at c.loop-k.invariant))

pub returns : goal.returns
returns c =
    let e : c.loop-k.k ≡ 0 = omega arith in
    let y_is = to_z-of_z {w = w64} c.ranges.y in
    latest_none _ _ _ _ c.loop-k.k e ∙ (rw y_is at c.loop-k.invariant)

pub returns-then-lateness_on-y : goal.returns-then-lateness_on-y
returns-then-lateness_on-y c =
    let a = c.args in
    let y_is = to_z-of_z {w = w64} c.ranges.y in
    let late_is = to_z-of_z {w = w64} {z = c.lateness_on.result} (record { sfits = c.lateness_on.type_inv }) in
    let tested = rw (late_is, y_is, c.lateness_on.ensures) at c.if-lateness_on-y.true in
    latest_found a.weight a.due (nth a.arrival.now) a.y c.loop-k.k (omega arith) tested ∙ (rw y_is at c.loop-k.invariant)
