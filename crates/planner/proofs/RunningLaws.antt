-- A call's rounds, from the first to what is told at their end. Assumes nothing.
use Rattle.std.specs.Prelude.{◌≡◌, true, false, Some, None, List, [], ◌∷◌, ℕ, ◌+◌, ◌<◌, ℤ, length}
use Rattle.std.proofs.Math.Path.{refl}
use Rattle.std.proofs.Common.{sym, ◌∙◌, arith}
use Rattle.numbers.specs.DecidesLaws.{decides_eq, cond_yes, cond_no}
use Rattle.model.specs.Sheet.{Sheet}
use Rattle.rounds.specs.Recording.{Entry, record_entry, listed}
use Rattle.rounds.proofs.RecordingLaws.{listed_length}
use Rattle.rounds.specs.Outset.{Outset}
use Rattle.rounds.specs.Rounds.{start_from}
use Rattle.rounds.specs.RoundsBound.{rounds_bound}
use Rattle.rounds.proofs.AimLaws.{Aim, rounds_of}
use Rattle.rounds.proofs.InvariantLaws.{search_at_end}
use Rattle.rounds.specs.Answers.{Answer, list_of, list_from}
use Rattle.rounds.specs.Areas.{list_reply, pair_numbers, list_left}
use Rattle.rounds.specs.Told.{Told, ListTold}
use Rattle.recording.specs.Recorded.{held_list, Lists, ListsMore}
use Rattle.search.specs.Shows.{Times, ShowsFrom, shown_entry, recorded_by, MakesFrom}
use Rattle.search.specs.Parts.{BegunFrom}
use Rattle.search.proofs.PartsLaws.{begun_from}
use Rattle.search.proofs.RunLaws.{nothing_recorded, start_shown, next_shown, more_to_come, over_means}
use Rattle.search.specs.declared.Progress.{Progress}
use Rattle.planner.specs.Outcome.{listed_so}
use Rattle.planner.specs.SoFar.{RunningFrom, recorded_now_from}

-- what is told of an answer is told of an equal one
pub told_as : {A R L : Type 0} {replies : Answer A → R} {leaves : Answer A → L → L} {x x' : Answer A} {r : R} {left found : L} → x ≡ x'
    → Told replies leaves x r left found → Told replies leaves x' r left found
told_as e t = rw (← e) t

module _ (s : Sheet) (o : Outset) where
  -- ---- the rounds

  pub begun : (p : Progress) → ShowsFrom s o p (start_from o) → RunningFrom s o p × (recorded_now_from s o p ≡ []) × (p.rounds ≡ 0)
  begun p h = let (none, shows) = start_shown s o p h in (shows, nothing_recorded s o p.rounds none, none)

  pub next : (p r : Progress) → RunningFrom s o p → MakesFrom s o p r → r.rounds ≡ p.rounds + 1
      → RunningFrom s o r × (recorded_now_from s o r ≡ recorded_by s r (recorded_now_from s o p))
  next p r h makes one = next_shown s o p r h makes one

  -- what the round recorded
  pub next_better : (p r : Progress) (t : Times) → r.recorded ≡ Some t → recorded_now_from s o r ≡ recorded_by s r (recorded_now_from s o p)
      → recorded_now_from s o r ≡ record_entry (recorded_now_from s o p) (shown_entry s r t)
  next_better p r t better records = rw better at records

  pub next_same : (p r : Progress) → r.recorded ≡ None → recorded_now_from s o r ≡ recorded_by s r (recorded_now_from s o p)
      → recorded_now_from s o r ≡ recorded_now_from s o p
  next_same p r worse records = rw worse at records

  -- ---- the list

  -- before the first round nothing is listed
  pub list_begun : (p : Progress) (found : List ℤ) → RunningFrom s o p → recorded_now_from s o p ≡ []
      → Lists found (held_list 0 p.last found) (recorded_now_from s o p)
  unfolding listed pair_numbers
  list_begun p found h none =
      record { count_is = rw none refl; last_is = h.last; area_is = rw none refl }

  -- a better plan is listed, another is not
  pub list_better : (p r : Progress) (t : Times) (count more : ℕ) (area after found : List ℤ)
      → recorded_now_from s o r ≡ record_entry (recorded_now_from s o p) (shown_entry s r t) → Lists found (held_list count p.last area)
      (recorded_now_from s o p)
      → ListsMore (held_list count p.last area) (held_list more r.last after) r.last r.limit
      → Lists found (held_list more r.last after) (recorded_now_from s o r)
  list_better p r t count more area after found is h lists = rw is (lists found (recorded_now_from s o p) (shown_entry s r t) refl h)

  pub list_same : (p r : Progress) (count : ℕ) (area found : List ℤ) → RunningFrom s o r → recorded_now_from s o r ≡ recorded_now_from s o p
      → Lists found (held_list count p.last area) (recorded_now_from s o p) → Lists found (held_list count r.last area) (recorded_now_from s o r)
  list_same p r count area found now is h =
      record { count_is = rw is h.count_is; last_is = now.last; area_is = rw is h.area_is }

-- a list is told as the entries that are in it
told_listed : (c count : ℕ) (entries : List Entry) (last : ℕ) (area found : List ℤ) → Lists found (held_list count last area) entries
    → ListTold (list_of c entries) (listed_so count c) area found
unfolding list_of list_reply list_left listed pair_numbers
told_listed c count [] last area found h =
    record { replied = cond_yes (decides_eq count 0) h.count_is _ _; areas_left = h.area_is }
told_listed c count (e ∷ es) last area found h =
    let some : ¬ (count ≡ 0) = λ z. omega (arith, z, h.count_is) in
    let many : count ≡ length (listed (e ∷ es)) = h.count_is ∙ sym (listed_length (e ∷ es)) in
    record { replied = cond_no (decides_eq count 0) some _ _ ∙ rw many refl; areas_left = h.area_is }

-- ---- of a search that aims at some schedules

module _ (s : Sheet) (a : Aim s) where
  abbrev o : Outset
  o = a.outset

  pub more : (p : Progress) → RunningFrom s o p → p.ended ≡ false → p.rounds < rounds_bound s
  more p h on = more_to_come s a p on p.rounds h

  pub can_go_on : (p : Progress) → RunningFrom s o p → p.ended ≡ false → BegunFrom s o p
  can_go_on p h on = begun_from s a p (record { made = p.rounds; shows = h }) on

  -- WHAT IS TOLD AT THE END is what the rounds list
  pub list_ended : (p : Progress) (count : ℕ) (area found : List ℤ) → RunningFrom s o p → p.ended ≡ true
      → Lists found (held_list count p.last area) (recorded_now_from s o p) → ListTold (list_from s o) (listed_so count p.rounds) area found
  unfolding list_from
  list_ended p count area found h over lists =
      let end = over_means s o p (rounds_of s a p.rounds) h over in
      let end_is_so = search_at_end s a p.rounds p.rounds (recorded_now_from s o p) end in
      rw end_is_so (told_listed p.rounds count (recorded_now_from s o p) p.last area found lists)
