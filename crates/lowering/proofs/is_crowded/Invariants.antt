-- `lowering::is_crowded` meets its contract: the loop's invariant is that `places` is K_i and that the numbers below i are tested. Assumes nothing.
use mathlib.Core.Path.{◌≡◌}
use Prim.Native.Nat.{◌*◌, ◌≤◌}
use lib.ListN.{take}
use Rattle.numbers.specs.Counting.{nth}
use Rattle.model.specs.Sheet.{places as K}
use Rattle.lowering.specs.SoFar.{crowded_below}
use Rattle.lowering.proofs.is_crowded.Given as goal

abbrev pub invariant-loop-i : goal.invariant-loop-i
invariant-loop-i l = (l.places ≤ 64 * l.i) × (l.places ≡ K (nth l.capacity) l.i)
    × (l.crowded ≡ crowded_below l.n (nth l.capacity) (take l.n l.latest) l.i)
