-- `rules::carried` meets its contract: the loop's invariant is that `orders` is the count among the orders passed. Assumes nothing.
use mathlib.Core.Path.{◌≡◌}
use lib.Dec.{eqb}
use Rattle.numbers.specs.Counting.{at, count}
use Rattle.rules.proofs.carried.Given as goal

abbrev pub invariant-loop-own : goal.invariant-loop-own
invariant-loop-own l = l.orders ≡ count (λ m. eqb (at l.train m) l.i) l.own-index
