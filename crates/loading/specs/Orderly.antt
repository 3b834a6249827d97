-- TRAINS THAT A LOADING MAY BEGIN FROM: those of the round before, or none at all. Train 0 means that an order has no train.
use Rattle.std.specs.Prelude.{◌≡◌, List, ℕ, ◌≤◌, ◌<◌}
use Rattle.numbers.specs.Counting.{at, count}
use Rattle.rounds.specs.Riding.{Below, on}
use Rattle.rounds.specs.Settled.{Could}
use Rattle.columns.specs.Columns.{UpTo}

-- No train has more of n orders than places. An order that has a train and may ride a later one is below all who ride that, and that train is full.
pub record Orderly (n q : ℕ) (release capacity : ℕ → ℕ) (latest train : List ℕ) : Type 0 where
  pub up_to : UpTo q n train
  pub room : (i : ℕ) → 1 ≤ i → i ≤ q → count (on train i) n ≤ capacity i
  pub beaten : (x y : ℕ) → x < n → y < n → 1 ≤ at train y → Could latest train (at train x) y → Below release y x
  pub full : (y i : ℕ) → y < n → 1 ≤ at train y → Could latest train i y → count (on train i) n ≡ capacity i
