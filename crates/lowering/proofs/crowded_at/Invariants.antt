-- `lowering::crowded_at` meets its contract: the loop's invariant is that `orders` is the count among the latest trains passed. Assumes nothing.
use mathlib.Core.Path.{◌≡◌}
use lib.Dec.{leb}
use Rattle.numbers.specs.Counting.{at, count}
use Rattle.lowering.proofs.crowded_at.Given as goal

abbrev pub invariant-loop-last : goal.invariant-loop-last
invariant-loop-last l = l.orders ≡ count (λ m. leb (at l.latest m) l.i) l.last-index
