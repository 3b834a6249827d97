-- DOCUMENT 02, NO. 13: REPLANNING LISTS THE FRONT OF THE SCHEDULES THAT BEGIN WITH THE GONE TRAINS. The gone part, those schedules and 21 stand in
-- model/specs/Gone.antt, the answers in rounds/specs/Replan.antt; fronts, entries and choices are those of the ordinary calls, among these schedules. Each
-- theorem cites laws of other files, and assumes nothing.
use Rattle.std.specs.Prelude.{◌≡◌, ◌↔◌, true, false, List, ℕ, suc, ◌≤◌, ◌<◌, ℤ, length}
use Rattle.std.proofs.Common.{sym, ◌∙◌}
use Rattle.numbers.specs.Counting.{at, nth}
use Rattle.numbers.specs.DecidesLaws.{test_means}
use Rattle.model.specs.Sheet.{Sheet, places}
use Rattle.model.specs.Arrival.{arrival}
use Rattle.model.specs.Lateness.{pair_at, worst}
use Rattle.model.specs.Admission.{Admitted}
use Rattle.model.specs.Gone.{Gone, nothing_gone, gone_trains, gone_by, Begins, EmptyTrainsBehind, GoneWorst, WentWell, went_well}
use Rattle.model.proofs.GoneTestLaws.{decides_went_well}
use Rattle.model.specs.declared.Refusal.TheVariants.{NoSchedule, WishTooEarly, GoneWrong}
use Rattle.rounds.specs.Timing.{stopped, timed}
use Rattle.rounds.specs.Recording.{Entry, record_entry, entry_at, last_entry}
use Rattle.rounds.specs.EntryPlan.{EntryPlanAmong, EntryBooked, EntryPromptAmong}
use Rattle.rounds.specs.ListedPairs.{FrontAmong}
use Rattle.rounds.specs.ChosenPair.{BestAmong, TooEarlyAmong}
use Rattle.rounds.specs.Rounds.{going, ended, recorded_in, loading_from, times_from, first_timing_from, start_from}
use Rattle.rounds.specs.Rounds.{round_from, rounds_from, recorded_from, search_from}
use Rattle.rounds.specs.RoundsBound.{rounds_bound}
use Rattle.rounds.specs.Answers.{refused, given, Listing, list_from, last_arrival_in, choose_from}
use Rattle.rounds.specs.Areas.{PlanAreas, list_to, choose_to}
use Rattle.rounds.specs.Replan.{behind, outnumbered, relist, rechoose, relist_to, rechoose_to}
use Rattle.rounds.proofs.AimLaws.{Aim}
use Rattle.rounds.proofs.InvariantLaws.{entry_plans, entry_booked, entry_empty_trains, entry_prompt}
use Rattle.rounds.proofs.AnswerLaws.{listed_so, front_listed, listed_otherwise, eight_stops}
use Rattle.rounds.proofs.ChosenLaws.{choice_best, chosen_so, eleven_before_first}
use Rattle.rounds.proofs.ChoosingLaws.{booked_chosen, empty_chosen, prompt_chosen, last_recorded_chosen}
use Rattle.rounds.proofs.GoneLaws.{aim_behind, begun_enough}
use Rattle.rounds.proofs.GoneRoundLaws as gone_rounds
use Rattle.rounds.proofs.LastRoundLaws as last_rounds
use Rattle.rounds.proofs.ReplanLaws.{list_eight, list_given, list_through, list_twenty_one}
use Rattle.rounds.proofs.ReplanLaws.{choice_eight, choice_eleven, choice_given, choice_through, choice_twenty_one, no_places, fits_in}
use Rattle.rounds.proofs.NothingGoneLaws.{lists_to_as_ever, chooses_to_as_ever}
use Rattle.front.specs.Chosen.{LastListed}

-- "With no train gone and minute 0 it is the ordinary plan.": of every sheet and every area, refusals too
pub as_ever : (s : Sheet) (lent : List ℤ) → relist_to s nothing_gone lent ≡ list_to s lent
as_ever s lent = lists_to_as_ever s lent

pub as_ever_chosen : (s : Sheet) (wish : ℕ) (lent : PlanAreas) → rechoose_to s nothing_gone wish lent ≡ choose_to s wish lent
as_ever_chosen s wish lent = chooses_to_as_ever s wish lent

module _ (s : Sheet) (a : Admitted s) (g : Gone) where
  -- "New numbers: 21": exactly when the gone part is not well, in either call
  pub gone_wrong : relist s g ≡ refused GoneWrong ↔ (¬ WentWell s g)
  gone_wrong = list_twenty_one s g a

  pub gone_wrong_chosen : (wish : ℕ) → rechoose s g wish ≡ refused GoneWrong ↔ (¬ WentWell s g)
  gone_wrong_chosen = choice_twenty_one s g a

  -- the test that is computed
  pub tested : went_well s g ≡ true → WentWell s g
  tested = test_means (decides_went_well s g)

-- "Where 21 isn't given"
module _ (s : Sheet) (a : Admitted s) (g : Gone) (w : WentWell s g) where
  -- ---- "the guarantee about the list"

  -- what is listed is the front "over all schedules that begin with the gone trains and whose others keep to that minute"
  pub replanned_is_front : {l : Listing} → relist s g ≡ given l → FrontAmong s (Begins s g) l.pairs
  replanned_is_front e = let (enough, u) = list_given s g a w e in front_listed s (aim_behind s g w a enough) u

  -- where there is such a schedule the front is listed
  pub front_is_replanned : (train departure : List ℕ) → Begins s g train departure
      → (l : Listing) × (relist s g ≡ given l) × FrontAmong s (Begins s g) l.pairs
  front_is_replanned train departure b =
      let enough = begun_enough s g w train departure b in
      let (l, u) = listed_otherwise s (aim_behind s g w a enough) train departure b in
      let e : relist s g ≡ given l = list_through s g a w enough ∙ u in
      (l, e, replanned_is_front e)

  -- "with demand 3's words on 8": it is given exactly when there is none
  pub no_such_schedule : relist s g ≡ refused NoSchedule ↔ ((train departure : List ℕ) → ¬ Begins s g train departure)
  no_such_schedule = list_eight s g a w

  -- "If the orders left outnumber the other trains' places, the answer is 8."
  pub too_many_left : outnumbered s g ≡ true → (relist s g ≡ refused NoSchedule) × ((wish : ℕ) → rechoose s g wish ≡ refused NoSchedule)
  too_many_left e = let none = no_places s g a w e in ((list_eight s g a w).1 none, λ wish. (choice_eight s g a w wish).1 none)

  -- document 02, No. 6: the figure of the whole sheet
  pub replanned_within : {l : Listing} → relist s g ≡ given l → (l.rounds ≤ rounds_bound s) × (length l.pairs ≤ rounds_bound s)
  replanned_within e =
      let (enough, u) = list_given s g a w e in let h = listed_so s (aim_behind s g w a enough) u in (h.few_rounds, h.few_pairs)

  -- ---- the plan for a wished last arrival: "by two calls as in No. 1, 11 included"

  module _ (wish : ℕ) where
    pub no_such_schedule_chosen : rechoose s g wish ≡ refused NoSchedule ↔ ((train departure : List ℕ) → ¬ Begins s g train departure)
    no_such_schedule_chosen = choice_eight s g a w wish

    pub wish_too_early : rechoose s g wish ≡ refused WishTooEarly ↔ TooEarlyAmong s (Begins s g) wish
    wish_too_early = choice_eleven s g a w wish

    pub before_the_first : {l : Listing} → relist s g ≡ given l → rechoose s g wish ≡ refused WishTooEarly ↔ (wish < (pair_at l.pairs 0).last)
    before_the_first e =
        let (enough, u) = list_given s g a w e in
        let same = choice_through s g a w wish enough in
        let h = eleven_before_first s (aim_behind s g w a enough) wish u in
        (λ v. h.0 (sym same ∙ v), λ v. same ∙ h.1 v)

    module _ {e : Entry} (u : rechoose s g wish ≡ given e) where
      enough : s.orders ≤ places (behind s g).capacity s.trains
      enough = (choice_given s g a w wish u).0

      abbrev aim : Aim s
      aim = aim_behind s g w a enough

      is : choose_from s (behind s g) wish ≡ given e
      is = (choice_given s g a w wish u).1

      -- it begins with the gone trains, and the pair is its own, of all orders: "the worst lateness counts the gone orders too"
      pub chosen_begins : EntryPlanAmong s (Begins s g) e
      chosen_begins = (chosen_so s aim wish is).plan

      pub chosen_windows : EntryBooked s e
      chosen_windows = booked_chosen s aim wish is

      -- No. 5: the other empty trains wait only for gap, window and minute
      pub chosen_empty_trains : EmptyTrainsBehind s g e.plan.train e.plan.departure
      chosen_empty_trains = gone_rounds.empty_behind s g w a enough e (empty_chosen s aim wish is)

      -- "the last listed pair not later than it"
      pub chosen_listed : LastListed (relist s g) wish e.pair
      chosen_listed =
          let h = chosen_so s aim wish is in record { listing = h.listing; is_list = list_through s g a w enough ∙ h.is_list; last = h.last }

      -- "and none that arrives in time has a smaller worst lateness"
      pub chosen_best : BestAmong s (Begins s g) wish e.pair
      chosen_best = choice_best s aim wish e (chosen_so s aim wish is)

      -- "and No. 11's for the plans made here"
      pub chosen_prompt : EntryPromptAmong s (Begins s g) e
      chosen_prompt = prompt_chosen s aim wish is

  -- demand 2, "in the last recorded plan": it is chosen where the wish is for the last listed arrival
  pub last_plan_chosen : {l : Listing} → relist s g ≡ given l
      → rechoose s g (last_arrival_in l.pairs) ≡ given (last_entry (recorded_in (search_from s (behind s g))))
  last_plan_chosen {l} e =
      let (enough, u) = list_given s g a w e in
      choice_through s g a w (last_arrival_in l.pairs) enough ∙ last_recorded_chosen s (aim_behind s g w a enough) u

  -- ---- the rounds, where the places are enough

  module _ (fit : outnumbered s g ≡ false) where
    places_enough : s.orders ≤ places (behind s g).capacity s.trains
    places_enough = fits_in s g a w fit

    abbrev aim_now : Aim s
    aim_now = aim_behind s g w a places_enough

    -- the answers are those of the rounds
    pub by_rounds : (relist s g ≡ list_from s (behind s g)) × ((wish : ℕ) → rechoose s g wish ≡ choose_from s (behind s g) wish)
    by_rounds = (list_through s g a w places_enough, λ wish. choice_through s g a w wish places_enough)

    -- 8, then, exactly when step 2 stops round 1
    pub first_stop : list_from s (behind s g) ≡ refused NoSchedule ↔ (first_timing_from s (behind s g) ≡ stopped)
    first_stop = eight_stops s aim_now

    -- each recorded entry, after any number of rounds
    pub recorded_begins : (k m : ℕ) → m < length (recorded_from s (behind s g) k)
        → EntryPlanAmong s (Begins s g) (entry_at (recorded_from s (behind s g) k) m)
    recorded_begins k = entry_plans s aim_now k

    pub recorded_windows : (k m : ℕ) → m < length (recorded_from s (behind s g) k) → EntryBooked s (entry_at (recorded_from s (behind s g) k) m)
    recorded_windows k = entry_booked s aim_now k

    pub recorded_empty_trains : (k m : ℕ) → m < length (recorded_from s (behind s g) k)
        → EmptyTrainsBehind s g (entry_at (recorded_from s (behind s g) k) m).plan.train (entry_at (recorded_from s (behind s g) k) m).plan.departure
    recorded_empty_trains k m l =
        gone_rounds.empty_behind s g w a places_enough (entry_at (recorded_from s (behind s g) k) m) (entry_empty_trains s aim_now k m l)

    pub recorded_prompt : (k m : ℕ) → m < length (recorded_from s (behind s g) k)
        → EntryPromptAmong s (Begins s g) (entry_at (recorded_from s (behind s g) k) m)
    recorded_prompt k = entry_prompt s aim_now k

    -- a search that goes on after k rounds
    module _ (k c : ℕ) (latest : List ℕ) (y : ℤ) (recorded : List Entry)
        (now : rounds_from s (behind s g) k (start_from (behind s g)) ≡ going c latest y recorded) where
      abbrev train : List ℕ
      train = loading_from s (behind s g) latest

      -- "The rounds run over the other trains": latest trains and loading leave the gone orders on theirs, and nobody joins them
      pub over_the_others : (j : ℕ) → j < s.orders
          → (1 ≤ at (gone_by s g) j → (at latest j ≡ at (gone_by s g) j) × (at train j ≡ at (gone_by s g) j))
          × (at (gone_by s g) j ≡ 0 → (gone_trains g < at latest j) × (gone_trains g < at train j))
      over_the_others j l = (
        λ p. (
          gone_rounds.gone_stay s g w a places_enough k c latest y recorded now j l p,
          gone_rounds.gone_loaded s g w a places_enough k c latest y recorded now j l p,
        ),
        λ e. (
          gone_rounds.left_stay s g w a places_enough k c latest y recorded now j l e,
          gone_rounds.left_loaded s g w a places_enough k c latest y recorded now j l e,
        ),
      )

      module _ (S F W : List ℕ) (t : times_from s (behind s g) train ≡ timed S F W) where
        -- the gone trains leave and arrive as they did
        pub times_stay : (i : ℕ) → 1 ≤ i → i ≤ gone_trains g
            → (nth S i ≡ nth g.departure i) × (nth F i ≡ arrival s.paths (nth g.departure) i)
        times_stay i p l = (
          gone_rounds.gone_depart s g w a places_enough k c latest y recorded now S F W t i p l,
          gone_rounds.gone_arrive s g w a places_enough k c latest y recorded now S F W t i p l,
        )

        -- "a round whose z equals the gone orders' worst is the last": it is recorded and counted
        pub last_round : GoneWorst s g (worst s train (nth F))
            → round_from s (behind s g) (going c latest y recorded)
            ≡ ended (suc c) (record_entry recorded (record {
              pair = record { last = nth F s.trains; worst = worst s train (nth F) };
              plan = record { train = train; departure = S; arrival = F; window = W };
            }))
        last_round h = last_rounds.last_round s g w a places_enough k c latest y recorded now S F W t h
