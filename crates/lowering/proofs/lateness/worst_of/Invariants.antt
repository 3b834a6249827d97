-- `lowering::lateness::worst_of` meets its contract: the loop's invariant is that `worst` is the greatest lateness of the first j orders, or below
-- every lateness where there are none. Assumes nothing.
use lib.ListN.{take}
use Rattle.numbers.specs.Counting.{at, nth}
use Rattle.lowering.proofs.LoweringStepLaws.{WorstOf}
use Rattle.lowering.proofs.lateness.worst_of.Given as goal

abbrev pub invariant-loop-j : goal.invariant-loop-j
invariant-loop-j l = WorstOf (at l.weight) (at l.due) (take l.n l.train) (nth l.arrival) l.j l.worst
