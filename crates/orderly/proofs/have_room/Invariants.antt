-- `orderly::have_room` meets its contract: `kept` is the test of the trains passed. Assumes nothing.
use Rattle.std.proofs.Common.{◌≡◌, ◌+◌, leb}
use Rattle.numbers.specs.Counting.{at, every}
use Rattle.orderly.proofs.have_room.Given as goal

abbrev pub invariant-loop-i : goal.invariant-loop-i
invariant-loop-i l = l.kept ≡ every (λ m. leb (at l.riders (m + 1)) (at l.capacity m)) l.i
