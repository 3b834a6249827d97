-- WHO RIDES WHICH TRAIN, in columns: order j stands at place j, and of trains there are the counts by number. Train 0 means that an order has no train.
use Rattle.std.specs.Prelude.{◌≡◌, cond, List, ℕ, ◌+◌, ◌≤◌, ◌<◌, leb, length}
use Rattle.numbers.specs.Counting.{at, count}
use Rattle.model.specs.Limits.{order_counts, train_counts, last_instant}
use Rattle.rounds.specs.Riding.{on}
use Rattle.columns.specs.Columns.{UpTo}

-- how many of n orders ride each train, and at place 0 how many have none
pub record Counted (n : ℕ) (train riders : List ℕ) : Type 0 where
  pub places : length train ≡ order_counts.most
  pub trains : length riders ≡ train_counts.most + 1
  pub counted : (i : ℕ) → i ≤ train_counts.most → at riders i ≡ count (on train i) n

-- orders and trains inside document 01's limits, and how many ride each
pub record Riding (n : ℕ) (release train riders : List ℕ) : Type 0 where
  pub few : n ≤ order_counts.most
  pub releases : UpTo last_instant n release
  pub up_to : UpTo train_counts.most n train
  pub counts : Counted n train riders

-- the train that order j keeps: none, where it is above its latest
abbrev pub stays : (latest train : List ℕ) → ℕ → ℕ
stays latest train j = cond (leb (at train j) (at latest j)) (at train j) 0

abbrev pub Stays : (n : ℕ) (latest before after : List ℕ) → Type 0
Stays n latest before after = (j : ℕ) → j < n → at after j ≡ stays latest before j

-- of the first j orders those who are above their latest trains have lost their trains, and the others are as before
pub record LeftTo (n : ℕ) (latest before : List ℕ) (j : ℕ) (train riders : List ℕ) : Type 0 where
  pub done : Stays j latest before train
  pub same : (k : ℕ) → j ≤ k → at train k ≡ at before k
  pub counts : Counted n train riders
