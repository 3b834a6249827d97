-- `places_of` meets its contract: `sum` is K_i, and at most i times the largest u32, so that it does not wrap. Assumes nothing.
use mathlib.Core.Path.{◌≡◌}
use Prim.Native.Nat.{◌≤◌, ◌*◌}
use Rattle.numbers.specs.Counting.{nth}
use Rattle.model.specs.Sheet.{places}
use Rattle.places.proofs.places_of.Given as goal

abbrev pub invariant-loop-places : goal.invariant-loop-places
invariant-loop-places l = (l.sum ≤ 4294967295 * l.places-index) × (l.sum ≡ places (nth l.capacity) l.places-index)
