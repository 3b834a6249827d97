-- `rules::are_released` meets its contract: `released` is the test of the orders passed. Assumes nothing.
use mathlib.Core.Path.{◌≡◌}
use mathlib.Core.Bool.{◌||◌}
use lib.Dec.{leb, eqb}
use Rattle.numbers.specs.Counting.{at, nth, every}
use Rattle.rules.proofs.are_released.Given as goal

abbrev pub invariant-loop-j : goal.invariant-loop-j
invariant-loop-j l = l.released ≡ every (λ m. eqb (at l.train m) 0 || leb (at l.release m) (nth l.departure (at l.train m))) l.j
