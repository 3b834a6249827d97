-- WHAT HOLDS OF A CHOSEN PAIR, AND WHEN A WISH IS TOO EARLY (document 02, No. 1; proved in ChoiceLaws.antt and ChosenLaws.antt), AND WHEN A PAIR IS LISTED
-- (No. 3; proved in CheckingLaws.antt).
use Rattle.std.specs.Prelude.{◌≡◌, List, ℕ, ◌≤◌, ◌<◌, length, ◌≤ℤ◌}
use Rattle.model.specs.Sheet.{Sheet}
use Rattle.model.specs.Schedule.{Schedule, Schedules}
use Rattle.model.specs.Lateness.{Pair, pair_of, pair_at, AtLeastAsGood}

-- "the last listed pair not later than it"
pub record LastInTime (wish : ℕ) (pairs : List Pair) (p : Pair) : Type 0 where
  pub place : ℕ
  pub among : place < length pairs
  pub is : pair_at pairs place ≡ p
  pub in_time : p.last ≤ wish
  pub later : (k : ℕ) → place < k → k < length pairs → wish < (pair_at pairs k).last

-- "and none that arrives in time has a smaller worst lateness", none of the schedules `Among`
abbrev pub BestAmong : (s : Sheet) (Among : Schedules) (wish : ℕ) (p : Pair) → Type 0
BestAmong s Among wish p =
    (train departure : List ℕ) → Among train departure → (pair_of s train departure).last ≤ wish → p.worst ≤ℤ (pair_of s train departure).worst

-- of all schedules of the sheet
abbrev pub Best : (s : Sheet) (wish : ℕ) (p : Pair) → Type 0
Best s = BestAmong s (Schedule s)

-- there is one of the schedules `Among`, and none of them arrives by the wish
pub record TooEarlyAmong (s : Sheet) (Among : Schedules) (wish : ℕ) : Type 0 where
  pub some : (train : List ℕ) × (departure : List ℕ) × Among train departure
  pub later : (train departure : List ℕ) → Among train departure → wish < (pair_of s train departure).last

-- of all schedules of the sheet
abbrev pub TooEarly : (s : Sheet) (wish : ℕ) → Type 0
TooEarly s = TooEarlyAmong s (Schedule s)

-- no schedule is better: one that is at least as good on both counts has the same pair
abbrev pub Unbeaten : (s : Sheet) (p : Pair) → Type 0
Unbeaten s p = (train departure : List ℕ) → Schedule s train departure → AtLeastAsGood (pair_of s train departure) p → pair_of s train departure ≡ p
