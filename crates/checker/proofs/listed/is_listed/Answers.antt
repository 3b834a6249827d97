-- `listed::is_listed` meets its contract: `listed` is the test of the pairs passed. Assumes nothing.
use Rattle.std.proofs.Common.{refl, ◌+◌, ◌*◌, rules, ℤ, pos, get_or, to_z-of_z, w64}
use mir.Val.{SFits}
use Rattle.model.specs.Limits.{numbers_a_pair}
use Rattle.checker.proofs.ListedLaws.{listed_start, listed_more, same_bits}
use Rattle.checker.proofs.listed.is_listed.Goals as goal

pub loop-k-init : goal.loop-k-init
loop-k-init c = listed_start _ _ _

pub loop-k-preserved : goal.loop-k-preserved
loop-k-preserved c =
    let a = c.args in
    let k = c.loop-k.k in
    let area = a.pairs.now in
    let other : ℤ = get_or area (numbers_a_pair * k) (pos 0) in
    let late : ℤ = get_or area (numbers_a_pair * k + 1) (pos 0) in
    let other_fits : SFits w64 other = search rules in
    let late_fits : SFits w64 late = search rules in
    let arrival_fits : SFits w64 c.from-arrival.result = record { sfits = c.from-arrival.type_inv } in
    let worst_is = to_z-of_z {w = w64} c.ranges.worst in
    rw (worst_is, same_bits other c.from-arrival.result other_fits arrival_fits, same_bits late a.worst late_fits c.ranges.worst)
    (listed_more area a.last a.worst k c.from-arrival.ensures refl refl (rw worst_is at c.loop-k.invariant))
