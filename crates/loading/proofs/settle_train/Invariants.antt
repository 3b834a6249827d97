-- `loading::settle_train` meets its contract: each turn keeps the stage, and whoever could still come stands lower after it. Assumes nothing.
use mathlib.Core.Path.{◌≡◌}
use mathlib.Core.Logic.{◌⊎◌}
use Prim.Native.Nat.{ℕ, ◌≤◌, ◌<◌}
use Rattle.numbers.specs.Counting.{at, nth}
use Rattle.riders.specs.Standing.{best}
use Rattle.riders.specs.Riders.{Counted}
use Rattle.loading.specs.Stage.{Stage, Unmoved}
use Rattle.loading.proofs.settle_train.Given as goal

abbrev pub invariant-loop-riders : goal.invariant-loop-riders
invariant-loop-riders l =
    Counted l.n l.train l.riders × Unmoved l.n l.i l.initial.train l.train × Stage l.n (at l.release) (nth l.capacity) l.latest l.i l.train
    × (nth l.capacity l.i ≡ l.places)
    × ((j : ℕ) → j < l.n → at l.train j ≡ 0 → 1 ≤ at l.latest j → (at l.latest j ≤ l.top) ⊎ (l.i ≤ l.top))

abbrev pub decreases-loop-riders : goal.decreases-loop-riders
decreases-loop-riders l = best (at l.release) l.latest l.train l.i l.n
