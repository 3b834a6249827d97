-- `places_of` meets its contract: `sum` is K_i, and at most i times the largest u32, so that it does not wrap. Assumes nothing.
use Rattle.std.proofs.Common.{arith}
use Rattle.numbers.specs.ListLaws.{first_at}
use Rattle.model.proofs.SheetLaws.{places_start, places_more}
use Rattle.places.proofs.places_of.Goals as goal

pub loop-places-init : goal.loop-places-init
loop-places-init c = (omega arith, places_start _)

pub loop-places-preserved : goal.loop-places-preserved
loop-places-preserved c =
    let a = c.args in
    let l = c.loop-places in
    let here = first_at a.trains a.capacity.now l.places-index (omega arith) in
    (omega (arith, here, c.type_inv.capacity l.places-index), rw (here, places_more, ← l.invariant.1))
