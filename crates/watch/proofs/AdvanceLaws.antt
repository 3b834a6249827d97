-- One round, and what it writes: the state and the areas are as after one round call more. Assumes nothing.
use Rattle.std.specs.Prelude.{◌≡◌, Some, None, List, ℕ, ℤ}
use Rattle.std.proofs.Math.Path.{refl, ap}
use Rattle.std.proofs.Common.{sym, ◌∙◌, subst, arith}
use Rattle.std.proofs.Math.ListN.{length}
use Rattle.numbers.specs.Over.{over}
use Rattle.model.specs.Sheet.{Sheet}
use Rattle.rounds.specs.Recording.{Entry, record_entry, listed}
use Rattle.rounds.proofs.RecordingLaws.{record_lengthens, last_recorded}
use Rattle.rounds.specs.EntryPlan.{EntryPlan}
use Rattle.rounds.specs.Rounds.{Search, recorded_in, round}
use Rattle.rounds.proofs.AimLaws.{whole}
use Rattle.rounds.proofs.InvariantLaws.{entry_plans}
use Rattle.rounds.specs.Answers.{given}
use Rattle.rounds.specs.Areas.{pair_numbers, plan_times, plan_left}
use Rattle.rounds.specs.Told.{areas}
use Rattle.rounds.specs.ByRound.{SearchAreas, all_areas, SearchRoom, Calls, then_round, search_by, last_plan, areas_by}
use Rattle.rounds.proofs.ByRoundLaws.{last_plan_given, last_plan_so}
use Rattle.recording.specs.Recorded.{held_list, Lists, ListsMore}
use Rattle.search.specs.Shows.{Times, Shows, shown_entry, recorded_by, RoundMade, Makes}
use Rattle.search.specs.declared.Progress.{Progress}
use Rattle.planner.proofs.SoFarLaws.{writes_over}
use Rattle.watch.specs.State.{progress_of, state_of}
use Rattle.watch.proofs.StateLaws.{shows_kept}
use Rattle.watch.specs.LeftBy.{LeftBy}
use Rattle.watch.specs.declared.State.{State}

-- what the areas hold goes by what is recorded
areas_same : (s : Sheet) (x y : Search) (lent : SearchAreas) → recorded_in x ≡ recorded_in y → areas_by s x lent ≡ areas_by s y lent
unfolding areas_by
areas_same s x y lent e = rw e refl

-- ---- the last plan

-- that of what was just recorded
last_plan_new : (entries : List Entry) (e : Entry) → last_plan (record_entry entries e) ≡ given e
last_plan_new entries e = last_plan_given (record_entry entries e) (record_lengthens entries e).not_empty ∙ ap given (last_recorded entries e)

module _ (s : Sheet) (state : State) (r : Progress) (makes : Makes s (progress_of state) r) (lent : SearchAreas) (calls : Calls) (found : SearchAreas)
    (h : LeftBy s lent calls state found) where
  abbrev x : Search
  x = search_by s calls

  abbrev next : Search
  next = search_by s (then_round calls)

  -- a round call makes a round
  next_is : next ≡ round s x
  unfolding search_by
  next_is = refl

  made : RoundMade s r x
  made = makes x h.shows

  shown : (pairs : ℕ) → Shows s (progress_of (state_of r pairs)) next
  shown pairs = shows_kept s r pairs next (subst (Shows s r) (sym next_is) made.shows)

  records : recorded_in next ≡ recorded_by s r (recorded_in x)
  records = ap recorded_in next_is ∙ made.records

  -- A PLAN THAT IS NOT BETTER: nothing is written
  pub moves_same : r.recorded ≡ None → LeftBy s lent (then_round calls) (state_of r state.pairs) found
  moves_same worse =
      let same : recorded_in next ≡ recorded_in x = rw worse at records in
      record {
        admitted = h.admitted;
        room = h.room;
        shows = shown state.pairs;
        pairs_are = h.pairs_are ∙ ap length (sym same);
        areas_are = h.areas_are ∙ areas_same s x next lent (sym same);
      }

  -- A BETTER PLAN: its pair is listed, and it is written
  module _ (t : Times) (better : r.recorded ≡ Some t) (count : ℕ) (pairs : List ℤ) (trains times : List ℕ) where
    abbrev e : Entry
    e = shown_entry s r t

    abbrev left : SearchAreas
    left = all_areas pairs trains times

    recorded_is : recorded_in next ≡ record_entry (recorded_in x) e
    recorded_is = rw better at records

    -- the last plan is a schedule, after any calls; so this one is
    plans : (calls : Calls) (e₀ : Entry) → last_plan (recorded_in (search_by s calls)) ≡ given e₀ → EntryPlan s e₀
    plans = last_plan_so s (EntryPlan s) (entry_plans s (whole s h.admitted))

    own : EntryPlan s e
    own = plans (then_round calls) e (ap last_plan recorded_is ∙ last_plan_new (recorded_in x) e)

    -- the list that was held
    held : Lists lent.pairs (held_list state.pairs state.last found.pairs) (recorded_in x)
    unfolding areas_by
    held = record { count_is = h.pairs_are; last_is = h.shows.last; area_is = ap (λ (a : SearchAreas). a.pairs) h.areas_are }

    areas_are : pairs ≡ over (pair_numbers (listed (record_entry (recorded_in x) e))) lent.pairs → areas trains times ≡ plan_left s (given e) lent.plan
        → left ≡ areas_by s next lent
    unfolding areas_by
    areas_are u v = rw (recorded_is, last_plan_new (recorded_in x) e, u, v) refl

    -- the areas are as long as before, so they have room
    room : length pairs ≡ length found.pairs → length trains ≡ length found.plan.trains → length times ≡ length found.plan.times → SearchRoom s left
    room u v w =
        record {
          list = omega (arith, h.room.list);
          plan = record { trains = omega (arith, h.room.plan.trains); times = omega (arith, h.room.plan.times) };
        }

    pub moves_better : ListsMore (held_list state.pairs state.last found.pairs) (held_list count r.last pairs) r.last r.limit
        → trains ≡ over e.plan.train found.plan.trains
        → times ≡ over (plan_times s e.plan) found.plan.times
        → length pairs ≡ length found.pairs → length trains ≡ length found.plan.trains → length times ≡ length found.plan.times
        → LeftBy s lent (then_round calls) (state_of r count) left
    unfolding areas_by
    moves_better lists trains_are times_are u v w =
        let after = lists lent.pairs (recorded_in x) e refl held in
        let written = writes_over s lent.plan e own (last_plan (recorded_in x)) (plans calls) found.plan
        (ap (λ (a : SearchAreas). a.plan) h.areas_are) in
        record {
          admitted = h.admitted;
          room = room u v w;
          shows = shown count;
          pairs_are = after.count_is ∙ ap length (sym recorded_is);
          areas_are = areas_are after.area_is (rw (trains_are, times_are) written);
        }
