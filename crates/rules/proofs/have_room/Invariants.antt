-- `rules::have_room` meets its contract: `room` is the test of the trains passed. Assumes nothing.
use mathlib.Core.Path.{◌≡◌}
use Prim.Native.Nat.{suc}
use lib.Dec.{leb, eqb}
use Rattle.numbers.specs.Counting.{at, nth, count, every}
use Rattle.rules.proofs.have_room.Given as goal

abbrev pub invariant-loop-i : goal.invariant-loop-i
invariant-loop-i l = l.room ≡ every (λ m. leb (count (λ j. eqb (at l.train j) (suc m)) l.n) (nth l.capacity (suc m))) l.i
