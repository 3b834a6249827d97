-- DOCUMENT 02, NO. 11: "NO TRAIN NEEDLESSLY LATE" (proved in OneRoundLaws.antt).
use Rattle.std.specs.Prelude.{List, ℕ, ◌≤◌, ◌≤ℤ◌}
use Rattle.numbers.specs.Counting.{nth}
use Rattle.model.specs.Sheet.{Sheet}
use Rattle.model.specs.Schedule.{Schedules}
use Rattle.model.specs.Arrival.{arrival}
use Rattle.model.specs.Lateness.{pair_of}

-- train i, by the departures `other`, is "leaving no earlier and arriving no earlier" than by the departures `departure`
pub record NoEarlier (s : Sheet) (departure other : List ℕ) (i : ℕ) : Type 0 where
  pub leaves : nth departure i ≤ nth other i
  pub arrives : arrival s.paths (nth departure) i ≤ arrival s.paths (nth other) i

-- "every schedule whose worst weighted lateness is no greater than that plan's has each train, first to last, leaving no earlier and arriving no earlier":
-- every one of the schedules `Among`, an empty train too
abbrev pub Prompt : (s : Sheet) (Among : Schedules) (train departure : List ℕ) → Type 0
Prompt s Among train departure =
    (other_train other : List ℕ) → Among other_train other → (pair_of s other_train other).worst ≤ℤ (pair_of s train departure).worst
    → (i : ℕ) → 1 ≤ i → i ≤ s.trains → NoEarlier s departure other i
