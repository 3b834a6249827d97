-- WHAT A LOADING TAKES AND GIVES, in columns: the first n elements of those of orders count, and train i has its element at place i - 1.
use Rattle.std.specs.Prelude.{List, ℕ, ◌≤◌, take}
use Rattle.numbers.specs.Counting.{at, nth}
use Rattle.model.specs.Limits.{order_counts, train_counts, capacity_range, last_instant}
use Rattle.rounds.specs.Loading.{load}
use Rattle.columns.specs.Columns.{UpTo}
use Rattle.loading.specs.Orderly.{Orderly}

-- document 01's loading of n orders and q trains: where these are a sheet's, the sheet's loading
abbrev pub loading_of : (n q : ℕ) (release : ℕ → ℕ) (capacity latest : List ℕ) → List ℕ
loading_of n q release capacity latest = load n q release (nth capacity) (take n latest)

-- n orders and q trains inside document 01's limits, and trains to begin from
pub record ToLoad (n q : ℕ) (release capacity latest train : List ℕ) : Type 0 where
  pub few_orders : n ≤ order_counts.most
  pub few_trains : q ≤ train_counts.most
  pub releases : UpTo last_instant n release
  pub capacities : UpTo capacity_range.most q capacity
  pub may_ride : UpTo q n latest
  pub begins : Orderly n q (at release) (nth capacity) latest train
