-- `timing::releases` meets its contract: the loop's invariant is that the first j orders are counted in. Assumes nothing.
use mathlib.Core.Path.{◌≡◌}
use lib.ListN.{take}
use Rattle.numbers.specs.Counting.{at, nth, row}
use Rattle.rounds.specs.Timing.{awaited}
use Rattle.timing.proofs.releases.Given as goal

abbrev pub invariant-loop-j : goal.invariant-loop-j
invariant-loop-j l = l.released ≡ row (awaited (nth l.initial.released) (at l.release) (take l.n l.train) l.j) 32
