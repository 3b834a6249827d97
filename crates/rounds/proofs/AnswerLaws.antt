-- What the listing call answers to an admitted sheet. Assumes nothing.
use Rattle.std.specs.Prelude.{◌≡◌, ◌↔◌, ℕ, ◌≤◌}
use Rattle.std.proofs.Math.Path.{refl, ap}
use Rattle.std.proofs.Common.{subst}
use mathlib.Core.List.{List, []}
use Rattle.model.specs.Sheet.{Sheet}
use Rattle.model.specs.Admission.{Admitted}
use Rattle.model.specs.declared.Refusal.TheVariants.{NoSchedule}
use Rattle.rounds.specs.Outset.{Outset}
use Rattle.rounds.specs.Timing.{Timed, stopped, timed}
use Rattle.rounds.specs.Recording.{Entry}
use Rattle.rounds.specs.ListedPairs.{FrontAmong}
use Rattle.rounds.specs.Rounds.{Search, ended, rounds_in, recorded_in, above_everything, depart}
use Rattle.rounds.specs.Rounds.{start_from, loading_from, first_timing_from, round_from, rounds_from}
use Rattle.rounds.specs.RoundsBound.{rounds_bound}
use Rattle.rounds.specs.Answers.{Answer, refused, given, Listing, list_of, list_from}
use Rattle.rounds.proofs.ListLaws.{list_given}
use Rattle.rounds.proofs.PairListLaws.{apart}
use Rattle.rounds.specs.SettingOut.{Sets}
use Rattle.rounds.proofs.AimLaws.{KeepsTo, Aim, set_out, rounds_of, search_of}
use Rattle.rounds.proofs.InvariantLaws.{Over, at_end, search_over, search_at_end, at_start, next_schedule}
use Rattle.rounds.proofs.EndLaws.{Unschedulable, ListsFront, Found, nothing, entries, found}

-- 8, and there is no schedule; or a listing
pub data Answered (s : Sheet) (a : Aim s) : Answer Listing → Type 0 where
  no_schedule : Unschedulable s a → Answered s a (refused NoSchedule)
  listing : {l : Listing} → ListsFront s a l → Answered s a (given l)

module _ (s : Sheet) (a : Aim s) where
  pub answered : Answered s a (list_from s a.outset)
  unfolding list_from list_of
  answered = go (search_of s a) (found s a)
    where
      go : (x : Search) → Found s a x → Answered s a (list_of (rounds_in x) (recorded_in x))
      go x (nothing none) = no_schedule none
      go x (entries {c = c} recorded some plans l) = rw (list_given c recorded some) (listing l)

  -- ---- read off

  pub listed_so : {l : Listing} → list_from s a.outset ≡ given l → ListsFront s a l
  listed_so {l} e = go (subst (Answered s a) e answered)
    where
      go : Answered s a (given l) → ListsFront s a l
      go (listing h) = h

  -- WHAT IS LISTED IS THE FRONT
  pub front_listed : {l : Listing} → list_from s a.outset ≡ given l → FrontAmong s a.Among l.pairs
  front_listed {l} e =
      let h = listed_so e in
      record { belongs = h.belong; covers = h.cover; distinct = apart l.pairs h.rise; by_arrival = λ i k u v. (h.rise i k u v).earlier }

  pub eight_means : list_from s a.outset ≡ refused NoSchedule → Unschedulable s a
  eight_means e = go (subst (Answered s a) e answered)
    where
      go : Answered s a (refused NoSchedule) → Unschedulable s a
      go (no_schedule none) = none

  pub eight_given : Unschedulable s a → list_from s a.outset ≡ refused NoSchedule
  eight_given none = go (list_from s a.outset) answered
    where
      go : (x : Answer Listing) → Answered s a x → x ≡ refused NoSchedule
      go x (no_schedule f) = refl
      go x (listing l) = let (train, departure, h, same) = l.belong 0 l.not_empty in absurd (none train departure h)

  -- where there is a schedule a listing is given
  pub listed_otherwise : (train departure : List ℕ) → a.Among train departure → (l : Listing) × (list_from s a.outset ≡ given l)
  listed_otherwise train departure h = go (list_from s a.outset) answered
    where
      go : (x : Answer Listing) → Answered s a x → (l : Listing) × (x ≡ given l)
      go x (no_schedule none) = absurd (none train departure h)
      go x (listing {l = l} fr) = (l, refl)

  pub ends_within : (c : ℕ) × (recorded : List Entry) × (search_of s a ≡ ended c recorded) × (c ≤ rounds_bound s)
  ends_within = go (search_of s a) (search_over s a)
    where
      go : (x : Search) → Over s a x → (c : ℕ) × (recorded : List Entry) × (x ≡ ended c recorded) × (c ≤ rounds_bound s)
      go x (at_end {c = c} {recorded = recorded} h) = (c, recorded, refl, h.bounded)

  -- ---- round 1

  -- 8 IS GIVEN EXACTLY WHEN STEP 2 STOPS ROUND 1
  pub eight_stops : list_from s a.outset ≡ refused NoSchedule ↔ (first_timing_from s a.outset ≡ stopped)
  unfolding rounds_from round_from start_from depart list_from list_of
  eight_stops = (
    λ e. go e (first_timing_from s a.outset) refl,
    λ e. ap (λ x. list_of (rounds_in x) (recorded_in x)) (search_at_end s a 1 1 [] (first_stops e)),
  )
    where
      go : list_from s a.outset ≡ refused NoSchedule → (t : Timed) → first_timing_from s a.outset ≡ t → t ≡ stopped
      go e stopped u = refl
      go e (timed S F W) u = absurd (eight_means e _ S (next_schedule s a 0 0 _ above_everything [] (at_start s a) S F W u))

      first_stops : first_timing_from s a.outset ≡ stopped → rounds_of s a 1 ≡ ended 1 []
      first_stops e = ap (depart s a.outset 1 _ above_everything [] (loading_from s a.outset a.outset.latest)) e

-- ---- FROM ANY OUTSET: the front of the schedules that keep to it, or 8 exactly where there is none

module _ (s : Sheet) (a : Admitted s) (o : Outset) (h : Sets s o) where
  pub front_kept : {l : Listing} → list_from s o ≡ given l → FrontAmong s (KeepsTo s o) l.pairs
  front_kept = front_listed s (set_out s a o h)

  pub none_kept : list_from s o ≡ refused NoSchedule ↔ ((train departure : List ℕ) → ¬ KeepsTo s o train departure)
  none_kept = (eight_means s (set_out s a o h), eight_given s (set_out s a o h))
