-- The first i trains have places for their own orders.
use Rattle.std.proofs.Common.{◌≡◌, suc, eqb, length}
use Rattle.numbers.specs.Counting.{at, count}
use Rattle.gone.specs.GonePart.{Filled}
use Rattle.gone.proofs.behind.places_behind.Given as goal

abbrev pub invariant-loop-i : goal.invariant-loop-i
invariant-loop-i l =
    (length l.capacity ≡ 32) × Filled (λ k. count (λ j. eqb (at l.train j) (suc k)) l.n) (at l.initial.capacity) l.i l.capacity
