-- What the code holds of the list that is recorded.
use Rattle.std.specs.Prelude.{◌≡◌, cond, List, ℕ, zero, suc, eqb, ℤ, length}
use Rattle.numbers.specs.Over.{over}
use Rattle.rounds.specs.Recording.{Entry, record_entry, listed, recorded_arrival}
use Rattle.rounds.specs.Areas.{pair_numbers}

-- the place of the next pair, behind `count` pairs, or over the last one if that has the same arrival
unfoldable pub place : (count last arrival : ℕ) → ℕ
place zero last arrival = 0
place (suc k) last arrival = cond (eqb last arrival) k (suc k)

-- how many pairs there are, the arrival of the last one, and the pairs area
pub record HeldList : Type 0 where
  pub count : ℕ
  pub last : ℕ
  pub area : List ℤ

abbrev pub held_list : (count last : ℕ) (area : List ℤ) → HeldList
held_list count last area = record { count = count; last = last; area = area }

-- it is the list of these entries, in an area that is else as found
pub record Lists (found : List ℤ) (held : HeldList) (entries : List Entry) : Type 0 where
  pub count_is : held.count ≡ length entries
  pub last_is : held.last ≡ recorded_arrival entries
  pub area_is : held.area ≡ over (pair_numbers (listed entries)) found

-- whatever entries were listed before, one more is recorded after, with this last arrival and worst lateness
abbrev pub ListsMore : (before after : HeldList) (arrival : ℕ) (worst : ℤ) → Type 0
ListsMore before after arrival worst =
    (found : List ℤ) (entries : List Entry) (e : Entry) → e.pair ≡ record { last = arrival; worst = worst } → Lists found before entries
    → Lists found after (record_entry entries e)
