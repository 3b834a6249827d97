-- HOW FAR A LOADING HAS COME, from the last train down: the trains above i are settled. Train 0 means that an order has no train.
use Rattle.std.specs.Prelude.{◌≡◌, List, ℕ, ◌≤◌, ◌<◌}
use Rattle.numbers.specs.Counting.{at, count}
use Rattle.model.specs.Limits.{train_counts}
use Rattle.rounds.specs.Riding.{Below, on}
use Rattle.rounds.specs.Settled.{Could, SettledAbove}
use Rattle.riders.specs.Standing.{standing}

-- No train has more orders than places; and an order that has a train and may ride a later one, up to i, is below all who ride that. A sheet's trains
-- are the first of so many as a sheet may have; nobody may ride the others.
pub record Stage (n : ℕ) (release capacity : ℕ → ℕ) (latest : List ℕ) (i : ℕ) (train : List ℕ) : Type 0 where
  pub above : SettledAbove n train_counts.most release capacity latest i train
  pub room : (m : ℕ) → 1 ≤ m → m ≤ train_counts.most → count (on train m) n ≤ capacity m
  pub beaten : (x y : ℕ) → x < n → y < n → at train x ≤ i → 1 ≤ at train y → Could latest train (at train x) y → Below release y x

-- those who still ride a train below i ride it since the beginning
abbrev pub Unmoved : (n i : ℕ) (before after : List ℕ) → Type 0
Unmoved n i before after = (j : ℕ) → j < n → 1 ≤ at after j → at after j < i → at after j ≡ at before j

-- who has no train may ride none above `top`
abbrev pub Waiting : (n : ℕ) (latest : List ℕ) (top : ℕ) (train : List ℕ) → Type 0
Waiting n latest top train = (j : ℕ) → j < n → at train j ≡ 0 → 1 ≤ at latest j → at latest j ≤ top

-- What is known of the trains up to i, by which most are passed over: `low` is a bound below the standings on each; `held` says how many each held at
-- first, and who has a train could come only to one that was full; who has none may ride no train above `top`, and stands no higher than `challenger`.
pub record Known (n : ℕ) (release capacity : ℕ → ℕ) (latest held low : List ℕ) (top challenger i : ℕ) (train : List ℕ) : Type 0 where
  pub lows : (x : ℕ) → x < n → 1 ≤ at train x → at train x ≤ i → at low (at train x) ≤ standing release x
  pub full : (y m : ℕ) → y < n → 1 ≤ at train y → m ≤ i → Could latest train m y → at held m ≡ capacity m
  pub waits : (j : ℕ) → j < n → at train j ≡ 0 → 1 ≤ at latest j → (at latest j ≤ top) × (standing release j ≤ challenger)
