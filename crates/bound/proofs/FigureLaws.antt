-- The figure as the code sums it up, one train more at a time. Assumes nothing.
use Rattle.std.specs.Prelude.{◌≡◌, refl, List, ℕ, ◌+◌, ◌-◌, min}
use Rattle.std.proofs.Common.{add-one}
use Rattle.numbers.specs.Counting.{nth, sum, total}
use Rattle.model.specs.Sheet.{places}
use Rattle.model.specs.Memory.{sheet_of}
use Rattle.model.specs.declared.Sheet as memory
use Rattle.rounds.specs.RoundsBound.{rounds_bound}

-- the summand of train m, of n orders
abbrev pub summand : (n : ℕ) (capacity : List ℕ) → ℕ → ℕ
summand n capacity m = min n (places (nth capacity) m)

pub sum_start : (n : ℕ) (capacity : List ℕ) → 1 ≡ 1 + total (summand n capacity) 0
unfolding sum
sum_start n capacity = refl

pub sum_more : (n : ℕ) (capacity : List ℕ) (i : ℕ) → total (summand n capacity) (i + 1) ≡ total (summand n capacity) i + summand n capacity (i + 1)
unfolding sum
sum_more n capacity i = rw add-one refl

-- the sum over all trains but the last is the sheet's figure
pub figure_is : (m : memory.Sheet) → 1 + total (summand m.order_count m.capacity) (m.train_count - 1) ≡ rounds_bound (sheet_of m)
unfolding rounds_bound
figure_is m = refl
