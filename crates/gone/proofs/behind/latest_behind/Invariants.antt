-- The first j orders have their latest trains.
use Rattle.std.proofs.Common.{◌≡◌, cond, eqb, length}
use Rattle.numbers.specs.Counting.{at}
use Rattle.gone.specs.GonePart.{Filled}
use Rattle.gone.proofs.behind.latest_behind.Given as goal

abbrev pub invariant-loop-j : goal.invariant-loop-j
invariant-loop-j l =
    (length l.train ≡ 200)
    × Filled (λ k. cond (eqb (at l.initial.train k) 0) l.last (at l.initial.train k)) (at l.initial.train) l.j l.train
