-- What the steps ask of the columns that a lateness is computed from: the table's ranges.
use Rattle.std.specs.Prelude.{List, ℕ, ◌≤◌, ◌<◌}
use Rattle.numbers.specs.Counting.{at, nth}
use Rattle.model.specs.Limits.{last_instant, last_arrival, weight_range, order_counts, train_counts}
use Rattle.columns.specs.Columns.{UpTo}

-- weights and due times of n orders
pub record Ranged (n : ℕ) (weight due : List ℕ) : Type 0 where
  pub few : n ≤ order_counts.most
  pub weights : UpTo weight_range.most n weight
  pub dues : UpTo last_instant n due

-- each of n orders is on a train, which arrives
abbrev pub Arrives : (n : ℕ) (train arrival : List ℕ) → Type 0
Arrives n train arrival = (j : ℕ) → j < n → (1 ≤ at train j) × (at train j ≤ train_counts.most) × (nth arrival (at train j) ≤ last_arrival)

-- each train up to the latest train of each of n orders arrives
abbrev pub ArrivesTo : (n : ℕ) (latest arrival : List ℕ) → Type 0
ArrivesTo n latest arrival = (j : ℕ) → j < n → (at latest j ≤ train_counts.most) × UpTo last_arrival (at latest j) arrival
