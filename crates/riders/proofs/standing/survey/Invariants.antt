-- `riders::standing::survey` meets its contract: the loop's invariant is that the first j orders are counted and looked at. Assumes nothing.
use mathlib.Core.Path.{◌≡◌}
use lib.ListN.{length}
use Rattle.numbers.specs.Counting.{at}
use Rattle.riders.specs.Standing.{Lowest}
use Rattle.riders.specs.Riders.{Counted}
use Rattle.riders.proofs.standing.survey.Given as goal

abbrev pub invariant-loop-j : goal.invariant-loop-j
invariant-loop-j l = Counted l.j l.train l.riders × (length l.low ≡ 33) × Lowest l.j (at l.release) l.train l.low
