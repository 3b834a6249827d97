-- DEMAND 3: WHAT HOLDS OF THE LISTED PAIRS (proved in AnswerLaws.antt).
use Rattle.std.specs.Prelude.{◌≡◌, List, ℕ, ◌<◌, length}
use Rattle.model.specs.Sheet.{Sheet}
use Rattle.model.specs.Schedule.{Schedule, Schedules}
use Rattle.model.specs.Lateness.{Pair, pair_of, AtLeastAsGood, pair_at}

pub record FrontAmong (s : Sheet) (Among : Schedules) (pairs : List Pair) : Type 0 where
  -- "each listed pair belongs to some schedule", one of the schedules `Among`
  pub belongs : (k : ℕ) → k < length pairs
      → (train : List ℕ) × (departure : List ℕ) × Among train departure × (pair_of s train departure ≡ pair_at pairs k)
  -- "every schedule", each of these, "has a listed pair whose last arrival is no later and whose worst weighted lateness is no greater"
  pub covers : (train departure : List ℕ) → Among train departure
      → (k : ℕ) × (k < length pairs) × AtLeastAsGood (pair_at pairs k) (pair_of s train departure)
  -- "of two listed pairs at different places in the list, neither is at least as good as the other on both counts"
  pub distinct : (i k : ℕ) → i < length pairs → k < length pairs → ¬ (i ≡ k) → ¬ AtLeastAsGood (pair_at pairs i) (pair_at pairs k)
  -- "the pairs in order of arrival"
  pub by_arrival : (i k : ℕ) → i < k → k < length pairs → (pair_at pairs i).last < (pair_at pairs k).last

-- among all schedules of the sheet
abbrev pub Front : (s : Sheet) (pairs : List Pair) → Type 0
Front s = FrontAmong s (Schedule s)
