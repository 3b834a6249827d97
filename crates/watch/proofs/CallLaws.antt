-- From what the code of a call knows to the call's contract. Assumes nothing.
use Rattle.std.specs.Prelude.{◌≡◌, List, ℕ, ◌*◌, ◌≤◌, ◌<◌, ℤ, length}
use Rattle.std.proofs.Math.Path.{refl, sym, ap, subst}
use Rattle.std.proofs.Common.{◌∙◌, arith}
use Rattle.numbers.specs.Over.{over}
use Rattle.model.specs.Sheet.{Sheet, places}
use Rattle.model.specs.Limits.{numbers_a_pair}
use Rattle.model.specs.Refusal.{number_of, returned_of}
use Rattle.std.specs.Prelude.{Ok, Err}
use Rattle.model.specs.Replies.{Admission}
use Rattle.model.specs.declared.Refusal.{Refusal}
use Rattle.rounds.specs.Recording.{listed}
use Rattle.rounds.proofs.RecordingLaws.{listed_length}
use Rattle.rounds.specs.Rounds.{recorded_in, start_from, start}
use Rattle.rounds.specs.Areas.{pair_numbers, plan_left}
use Rattle.rounds.specs.ByRound.{SearchAreas, start_to, Calls, started, search_by, seen, last_plan, areas_by}
use Rattle.rounds.proofs.ByRoundLaws.{decides_search_room, start_refuses}
use Rattle.search.specs.Shows.{Shows}
use Rattle.search.specs.declared.Progress.{Progress}
use Rattle.room.proofs.CallLaws.{admitted, has_room}
use Rattle.planner.specs.InAreas.{pairs_in}
use Rattle.planner.proofs.InAreasLaws.{pairs_read}
use Rattle.watch.specs.State.{state_of}
use Rattle.watch.proofs.StateLaws.{shows_kept}
use Rattle.watch.specs.LeftBy.{LeftBy}
use Rattle.watch.proofs.FitLaws.{left_fits}
use Rattle.watch.specs.Calls.{StartCall, LookCall}
use Rattle.watch.specs.declared.State.{State}

-- ---- a start

module _ (s : Sheet) (lent : SearchAreas) (t : Admission) (is : t ≡ start_to s lent) where
  -- before the first round nothing is recorded, and the areas are as lent
  areas_begun : lent ≡ areas_by s (start s) lent
  unfolding areas_by start_from last_plan plan_left listed pair_numbers
  areas_begun = refl

  left_begun : t ≡ Ok tt → (p : Progress) → Shows s p (start s) → LeftBy s lent started (state_of p 0) lent
  unfolding start_to search_by start_from
  left_begun e p shows =
      record {
        admitted = admitted s _ t is e;
        room = has_room s (decides_search_room s lent) t is e;
        shows = shows_kept s p 0 (start s) shows;
        pairs_are = refl;
        areas_are = areas_begun;
      }

  pub start_granted : t ≡ Ok tt → (p : Progress) → Shows s p (start s) → StartCall s lent (Ok (state_of p 0))
  start_granted e p shows =
      let refuses = start_refuses s lent in
      record {
        equal = sym e ∙ is;
        begins = λ x u. let same : state_of p 0 ≡ x = cc in rw (← same) (left_begun e p shows);
        no_eight = subst (λ (x : Admission). ¬ (number_of x ≡ 8)) (sym is ∙ e) refuses.no_eight;
        returns_zero = subst (λ (x : Admission). returned_of x ≡ 0) (sym is ∙ e) refuses.as_any.returns_zero;
        seven = subst (λ (x : Admission). number_of x ≡ 7 → places s.capacity s.trains < s.orders) (sym is ∙ e) refuses.as_any.seven;
      }

  pub start_refused : (f : Refusal) → t ≡ Err f → StartCall s lent (Err f)
  start_refused f e =
      let refuses = start_refuses s lent in
      record {
        equal = sym e ∙ is;
        begins = λ x u. absurd (let z : ◌≡◌ {A = ℕ} 0 1 = cc in omega arith);
        no_eight = subst (λ (x : Admission). ¬ (number_of x ≡ 8)) (sym is ∙ e) refuses.no_eight;
        returns_zero = subst (λ (x : Admission). returned_of x ≡ 0) (sym is ∙ e) refuses.as_any.returns_zero;
        seven = subst (λ (x : Admission). number_of x ≡ 7 → places s.capacity s.trains < s.orders) (sym is ∙ e) refuses.as_any.seven;
      }

-- ---- a look

module _ (state : State) (pairs : List ℤ) where
  -- of a state that these calls left
  module _ (s : Sheet) (lent : SearchAreas) (calls : Calls) (left : SearchAreas) (h : LeftBy s lent calls state left) (here : left.pairs ≡ pairs) where
    count_is : state.pairs ≡ length (seen s calls)
    count_is = h.pairs_are ∙ sym (listed_length (recorded_in (search_by s calls)))

    reads : pairs_in state.pairs pairs ≡ seen s calls
    unfolding areas_by
    reads =
        let written = over (pair_numbers (seen s calls)) lent.pairs in
        let area : pairs ≡ written = sym here ∙ ap (λ (a : SearchAreas). a.pairs) h.areas_are in
        ap (pairs_in state.pairs) area ∙ ap (λ (k : ℕ). pairs_in k written) count_is ∙ pairs_read (seen s calls) lent.pairs

    -- the area has room for them
    room_is : numbers_a_pair * state.pairs ≤ length pairs
    room_is =
        let fits = left_fits s lent calls state left h in
        omega (arith, fits.few_pairs, fits.few_rounds, h.room.list, ap (λ (l : List ℤ). length l) here)

  pub look_here : numbers_a_pair * state.pairs ≤ length pairs → LookCall state pairs state.pairs
  look_here l = record { sees = reads; counts = count_is; within = l }

  pub look_none : ¬ (numbers_a_pair * state.pairs ≤ length pairs) → LookCall state pairs 0
  look_none none =
      record {
        sees = λ s lent calls left h here. absurd (none (room_is s lent calls left h here));
        counts = λ s lent calls left h here. absurd (none (room_is s lent calls left h here));
        within = omega arith;
      }
