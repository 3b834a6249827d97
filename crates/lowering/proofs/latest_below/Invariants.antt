-- `lowering::latest_below` meets its contract: the loop's invariant is that the search from k gives what the search from the present train gives.
-- Assumes nothing.
use mathlib.Core.Path.{◌≡◌}
use Rattle.numbers.specs.Counting.{nth}
use Rattle.rounds.specs.Lowering.{latest_below}
use Rattle.lowering.proofs.latest_below.Given as goal

abbrev pub invariant-loop-k : goal.invariant-loop-k
invariant-loop-k l = latest_below l.weight l.due (nth l.arrival) l.y l.k ≡ latest_below l.weight l.due (nth l.arrival) l.y l.i
