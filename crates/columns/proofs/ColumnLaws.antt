-- Laws of columns. Assumes nothing.
use Rattle.std.specs.Prelude.{◌≡◌, List, ℕ, suc, ◌-◌, take}
use Rattle.std.proofs.Common.{ap, arith, get_or-take}
use Rattle.numbers.specs.Counting.{at, nth}
use Rattle.model.specs.Sheet.{Sheet}
use Rattle.columns.specs.Columns.{Loaded}

-- element number i + 1 stands at place i
pub nth_at : (l : List ℕ) (i : ℕ) → nth l (suc i) ≡ at l i
nth_at l i = let e : suc i - 1 ≡ i = omega arith in ap (at l) e

-- a column whose first elements are the trains of a loading is one
pub loaded_column : (s : Sheet) (train : List ℕ) → Loaded s (take s.orders train) → Loaded s train
loaded_column s train h j l = rw (get_or-take s.orders train j 0 l) at (h j l)
