-- Laws of choosing: from what is recorded, after some of the rounds, and of an admitted sheet. Assumes nothing.
use Rattle.std.specs.Prelude.{◌≡◌, refl, ◌↔◌, cond, ℕ, zero, suc, ◌+◌, ◌-◌, ◌≤◌, ◌<◌}
use Rattle.std.proofs.Common.{sym, ◌∙◌}
use Rattle.std.proofs.Math.Path.{ap, subst}
use mathlib.Core.List.{List, [], ◌∷◌}
use native.Mathlib.Omega.{arith}
use Rattle.std.proofs.Math.ListN.{length}
use Rattle.numbers.specs.OneMoreLaws.{All}
use Rattle.model.specs.Sheet.{Sheet}
use Rattle.model.specs.Lateness.{pair_at}
use Rattle.model.specs.declared.Refusal.TheVariants.{NoSchedule, WishTooEarly}
use Rattle.rounds.specs.Timing.{stopped}
use Rattle.rounds.specs.Recording.{Entry, record_entry, listed, no_entry, last_entry, recorded_arrival}
use Rattle.rounds.proofs.RecordingLaws.{listed_length, listed_at}
use Rattle.rounds.specs.EntryPlan.{EntryBooked, EntryPromptAmong}
use Rattle.rounds.specs.Rounds.{Search, ended, rounds_in, recorded_in, first_timing_from, search_from}
use Rattle.rounds.specs.RoundsBound.{rounds_bound}
use Rattle.rounds.specs.Answers.{Answer, refused, given, Listing, list_of, list_from, last_arrival_in, in_time, last_in_time, chosen, choose_from}
use Rattle.rounds.proofs.ListLaws.{list_given, last_arrival_at}
use Rattle.rounds.proofs.InTimeLaws.{when_timely, when_late, chosen_at, last_of_all, late_second, late_passed}
use Rattle.rounds.proofs.AimLaws.{Aim, rounds_of, recorded_of, search_of}
use Rattle.rounds.proofs.OneRoundLaws.{EmptyWait}
use Rattle.rounds.proofs.InvariantLaws.{Over, at_end, entry_booked, entry_empty_trains, entry_prompt, over_by, search_at_end}
use Rattle.rounds.proofs.ArrivalLaws.{Next, no_more, one_more, next_recorded, arrivals_in_order}
use Rattle.rounds.proofs.PairListLaws.{Rising, in_order}
use Rattle.rounds.proofs.EndLaws.{Unschedulable, listing_with, Found, nothing, entries, found}
use Rattle.rounds.proofs.AnswerLaws.{listed_so, eight_means, eight_given, eight_stops}
use Rattle.rounds.proofs.ChoiceLaws.{pair_late, Chose, no_schedule, too_early, choice, chose}
use Rattle.rounds.proofs.ChosenLaws.{choice_at}

-- ---- from what is recorded

-- where every entry is in time the last is chosen
pub all_in_time : (wish : ℕ) (entries : List Entry) → 1 ≤ length entries → All no_entry (λ e. e.pair.last ≤ wish) entries
    → chosen wish entries ≡ given (last_entry entries)
unfolding chosen
all_in_time wish [] l f = absurd (omega arith)
all_in_time wish (e ∷ es) l f =
    when_timely wish e (f 0 (omega arith)) _ _ ∙ ap given (last_of_all wish e es (λ k u. f (suc k) (omega arith)))

-- where the first entry is late it is 11
pub later_first : (wish : ℕ) (e : Entry) → wish < e.pair.last → chosen wish (record_entry [] e) ≡ refused WishTooEarly
unfolding chosen record_entry
later_first wish e l = when_late wish e l _ _

-- a late entry behind others does not change the choice
pub later_leaves : (wish : ℕ) (entries : List Entry) (e : Entry) → 1 ≤ length entries → wish < e.pair.last
    → chosen wish (record_entry entries e) ≡ chosen wish entries
unfolding chosen record_entry last_in_time
later_leaves wish [] e some l = absurd (omega arith)
later_leaves wish (e₀ ∷ []) e some l = late_second wish e l e₀
later_leaves wish (e₀ ∷ e₁ ∷ es) e some l = ap (λ x. cond (in_time wish e₀) (given x) (refused WishTooEarly)) (late_passed wish e l e₀ e₁ es)

-- ---- after some of the rounds

module _ (s : Sheet) (a : Aim s) (wish : ℕ) where
  -- wherever the rounds end, from those entries is chosen
  pub choice_at_end : (k c : ℕ) (recorded : List Entry) → rounds_of s a k ≡ ended c recorded → choose_from s a.outset wish ≡ chosen wish recorded
  unfolding choose_from
  choice_at_end k c recorded e = ap (λ x. chosen wish (recorded_in x)) (search_at_end s a k c recorded e)

  some_recorded : (recorded : List Entry) → wish < recorded_arrival recorded → 1 ≤ length recorded
  unfolding last_entry
  some_recorded [] l = absurd (omega arith)
  some_recorded (e ∷ es) l = omega arith

  -- after a late entry no round changes the choice
  one_round_settled : (k : ℕ) → wish < recorded_arrival (recorded_of s a k) → chosen wish (recorded_of s a (k + 1)) ≡ chosen wish (recorded_of s a k)
  one_round_settled k = go _ _ (next_recorded s a k)
    where
      go : (recorded after : List Entry) → Next recorded after → wish < recorded_arrival recorded → chosen wish after ≡ chosen wish recorded
      go recorded after no_more late = refl
      go recorded after (one_more e l m) late = later_leaves wish recorded e (some_recorded recorded late) (omega arith)

  settled : (k j : ℕ) → wish < recorded_arrival (recorded_of s a k) → chosen wish (recorded_of s a (k + j)) ≡ chosen wish (recorded_of s a k)
  settled k zero late = let e : k + 0 ≡ k = omega arith in rw e
  settled k (suc j) late =
      let e : k + suc j ≡ k + j + 1 = omega arith in
      rw e (one_round_settled (k + j) (omega (arith, arrivals_in_order s a k (k + j) (omega arith))) ∙ settled k j late)

  -- WHAT HOLDS OF EACH RECORDED ENTRY HOLDS OF A CHOSEN ONE
  of_recorded : (P : Entry → Type 0) → ((k : ℕ) → All no_entry P (recorded_of s a k)) → {e : Entry} → choose_from s a.outset wish ≡ given e → P e
  unfolding choose_from search_from
  of_recorded P each {e} u =
      let h = chosen_at wish (recorded_in (search_of s a)) e u in subst P h.is (each (rounds_bound s) h.place h.among)

  -- its windows are those of its departures
  pub booked_chosen : {e : Entry} → choose_from s a.outset wish ≡ given e → EntryBooked s e
  booked_chosen = of_recorded (EntryBooked s) (entry_booked s a)

  -- and its empty trains wait only for gap, window and outset
  pub empty_chosen : {e : Entry} → choose_from s a.outset wish ≡ given e → EmptyWait s a e
  empty_chosen = of_recorded (EmptyWait s a) (entry_empty_trains s a)

  -- and none of its trains is needlessly late
  pub prompt_chosen : {e : Entry} → choose_from s a.outset wish ≡ given e → EntryPromptAmong s a.Among e
  prompt_chosen = of_recorded (EntryPromptAmong s a.Among) (entry_prompt s a)

  -- ONCE THE PAIR RECORDED LAST IS LATER THAN THE WISH THE CHOICE IS SETTLED
  pub choice_settled : (k : ℕ) → wish < recorded_arrival (recorded_of s a k) → choose_from s a.outset wish ≡ chosen wish (recorded_of s a k)
  choice_settled k late = go (rounds_of s a further) refl (over_by s a further (omega arith))
    where
      further : ℕ
      further = k + rounds_bound s

      go : (x : Search) → rounds_of s a further ≡ x → Over s a x → choose_from s a.outset wish ≡ chosen wish (recorded_of s a k)
      go x u (at_end h) = choice_at_end further _ _ u ∙ sym (ap (λ x. chosen wish (recorded_in x)) u) ∙ settled k (rounds_bound s) late

  -- ---- what the call answers

  -- 8 IS GIVEN EXACTLY WHEN THERE IS NO SCHEDULE
  pub eight_chosen : choose_from s a.outset wish ≡ refused NoSchedule ↔ Unschedulable s a
  eight_chosen = (λ u. means (subst (Chose s a wish) u (chose s a wish)), given_so (choose_from s a.outset wish) (chose s a wish))
    where
      means : Chose s a wish (refused NoSchedule) → Unschedulable s a
      means (no_schedule none) = none

      given_so : (x : Answer Entry) → Chose s a wish x → Unschedulable s a → x ≡ refused NoSchedule
      given_so x (no_schedule f) none = refl
      given_so x (too_early h) none = let (train, departure, schedule) = h.some in absurd (none train departure schedule)
      given_so x (choice h) none = absurd (none _ _ h.plan.schedule)

  -- AND EXACTLY WHEN STEP 2 STOPS ROUND 1
  pub eight_chosen_stops : choose_from s a.outset wish ≡ refused NoSchedule ↔ (first_timing_from s a.outset ≡ stopped)
  eight_chosen_stops =
      (λ u. (eight_stops s a).0 (eight_given s a (eight_chosen.0 u)), λ e. eight_chosen.1 (eight_means s a ((eight_stops s a).1 e)))

module _ (s : Sheet) (a : Aim s) {l : Listing} (u : list_from s a.outset ≡ given l) where
  -- A WISH FOR A LISTED ARRIVAL GIVES THE PLAN OF THAT VERY PAIR
  pub listed_chosen : (k : ℕ) → k < length l.pairs
      → (e : Entry) × (choose_from s a.outset (pair_at l.pairs k).last ≡ given e) × (e.pair ≡ pair_at l.pairs k)
  listed_chosen k among = go (choose_from s a.outset wish) refl (chose s a wish)
    where
      wish : ℕ
      wish = (pair_at l.pairs k).last

      go : (x : Answer Entry) → choose_from s a.outset wish ≡ x → Chose s a wish x
          → (e : Entry) × (choose_from s a.outset wish ≡ given e) × (e.pair ≡ pair_at l.pairs k)
      go x v (no_schedule none) = let (train, departure, schedule, own) = (listed_so s a u).belong k among in absurd (none train departure schedule)
      go x v (too_early h) = absurd (omega (arith, pair_late s a wish h _ ((listed_so s a u).belong k among)))
      go x v (choice {e = e} h) = (e, v, sym (choice_at s a wish e h l u k among refl))

  -- "THE LAST RECORDED PLAN" IS CHOSEN WHERE THE WISH IS FOR THE LAST LISTED ARRIVAL
  pub last_recorded_chosen : choose_from s a.outset (last_arrival_in l.pairs) ≡ given (last_entry (recorded_in (search_of s a)))
  unfolding choose_from list_from list_of
  last_recorded_chosen = go (search_of s a) u (found s a)
    where
      no_later : (recorded : List Entry) → Rising (listed recorded) → 1 ≤ length recorded
          → All no_entry (λ e. e.pair.last ≤ last_arrival_in (listed recorded)) recorded
      no_later recorded rise some k among =
          let many = listed_length recorded in
          rw (← (listed_at recorded k), ← (last_arrival_at (listed recorded) (omega arith)))
          (in_order (listed recorded) rise k (length (listed recorded) - 1) (omega arith) (omega arith)).0

      go : (x : Search) → list_of (rounds_in x) (recorded_in x) ≡ given l → Found s a x
          → chosen (last_arrival_in l.pairs) (recorded_in x) ≡ given (last_entry (recorded_in x))
      go x v (nothing none) = absurd (let z : ◌≡◌ {A = ℕ} 0 1 = cc in omega arith)
      go x v (entries {c = c} recorded some plans h) =
          let w = list_given c recorded some in
          let same : listing_with c recorded ≡ l = cc in
          rw (← same) (all_in_time (last_arrival_in (listed recorded)) recorded some (no_later recorded h.rise some))
