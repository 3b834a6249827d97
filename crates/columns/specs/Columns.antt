-- What the steps ask of the columns that they are lent. Columns are longer than they need be: only their first elements count.
use Rattle.std.specs.Prelude.{List, ℕ, ◌≤◌, ◌<◌}
use Rattle.numbers.specs.Counting.{at}
use Rattle.model.specs.Sheet.{Sheet}

-- none of the first n elements is above b
abbrev pub UpTo : (b n : ℕ) → List ℕ → Type 0
UpTo b n l = (j : ℕ) → j < n → at l j ≤ b

-- every order is on a train
abbrev pub Loaded : Sheet → (train : List ℕ) → Type 0
Loaded s train = (j : ℕ) → j < s.orders → (1 ≤ at train j) × (at train j ≤ s.trains)
