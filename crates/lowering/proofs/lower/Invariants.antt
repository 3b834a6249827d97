-- `lowering::lower` meets its contract: the loop's invariant is that the first j latest trains are lowered and the others are as they were.
-- Assumes nothing.
use mathlib.Core.Path.{◌≡◌}
use lib.ListN.{length}
use Rattle.numbers.specs.Counting.{at, nth}
use Rattle.lowering.specs.SoFar.{LoweredTo}
use Rattle.lowering.proofs.lower.Given as goal

abbrev pub invariant-loop-j : goal.invariant-loop-j
invariant-loop-j l = (length l.latest ≡ 200) × LoweredTo (at l.weight) (at l.due) (nth l.arrival) l.y l.initial.latest l.j l.latest
