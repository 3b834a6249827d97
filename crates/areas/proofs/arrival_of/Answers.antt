-- `areas::arrival_of` meets its contract: what fits and is no greater than the last arrival is an arrival. Assumes nothing.
use Rattle.std.proofs.Math.Facts.{to_z-of_z}
use Rattle.std.proofs.Common.{w64}
use Rattle.areas.proofs.WishLaws.{an_arrival, too_great, no_fit}
use Rattle.areas.proofs.arrival_of.Goals as goal

pub returns-in-Ok : goal.returns-in-Ok
returns-in-Ok c =
    let z = to_z-of_z {w = w64} c.ranges.number in
    let h = rw z at c.in-Ok.ensures in
    an_arrival c.args.number c.in-Ok.arrival h.0 h.1 c.if-arrival-le-LAST_ARRIVAL.true

pub returns-in_default : goal.returns-in_default
returns-in_default c =
    let z = to_z-of_z {w = w64} c.ranges.number in
    let h = rw z at c.in-Ok.ensures in
    too_great c.args.number c.in-Ok.arrival h.1 c.if-arrival-le-LAST_ARRIVAL.false

pub returns-in_default-2 : goal.returns-in_default-2
returns-in_default-2 c =
    let z = to_z-of_z {w = w64} c.ranges.number in
    no_fit c.args.number (rw z at c.in_default.ensures)
