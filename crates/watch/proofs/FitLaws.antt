-- What calls have left fits, and how it is tested whether a state does. Assumes nothing.
use Rattle.std.specs.Prelude.{◌≡◌, Bool, false, not, ◌&&◌, ℕ, ◌≤◌, eqb, leb, length}
use Rattle.std.proofs.Common.{sym, ap, ◌∙◌, subst, arith}
use Rattle.numbers.specs.DecidesLaws.{Decides, decides_le, decides_and, decides_iff, test_true}
use Rattle.model.specs.Sheet.{Sheet}
use Rattle.std.specs.Prelude.{Ok, Err}
use Rattle.model.specs.Replies.{Admission}
use Rattle.model.specs.declared.Refusal.{Refusal}
use Rattle.rounds.specs.Areas.{tested}
use Rattle.rounds.specs.Rounds.{Search, going, ended, recorded_in, start, rounds}
use Rattle.rounds.specs.RoundsBound.{rounds_bound}
use Rattle.rounds.proofs.AimLaws.{whole}
use Rattle.rounds.proofs.InvariantLaws.{reached, below_bound, ended_after}
use Rattle.rounds.specs.ByRound.{SearchAreas, search_room, Calls, round_calls, search_by}
use Rattle.rounds.proofs.ByRoundLaws.{decides_search_room, made_so_far}
use Rattle.search.specs.Shows.{Stands, goes_on, has_ended, Shows}
use Rattle.search.specs.Parts.{Begun}
use Rattle.search.proofs.PartsLaws.{begun}
use Rattle.room.proofs.CallLaws.{passed, passes}
use Rattle.watch.specs.State.{progress_of}
use Rattle.watch.specs.Fit.{Fits}
use Rattle.watch.specs.LeftBy.{LeftBy}
use Rattle.watch.specs.declared.State.{State}

module _ (s : Sheet) (lent : SearchAreas) (calls : Calls) (state : State) (left : SearchAreas) (h : LeftBy s lent calls state left) where
  abbrev k : ℕ
  k = round_calls calls

  so_far : rounds s k (start s) ≡ search_by s calls
  so_far = sym (made_so_far s calls)

  -- no more pairs than rounds, and no more of these than the sheet's figure
  few : (state.pairs ≤ state.rounds) × (state.rounds ≤ rounds_bound s)
  few = go (search_by s calls) so_far h.shows.stands h.pairs_are
    where
      go : (x : Search) → rounds s k (start s) ≡ x → Stands s.orders (progress_of state) x → state.pairs ≡ length (recorded_in x)
          → (state.pairs ≤ state.rounds) × (state.rounds ≤ rounds_bound s)
      go (going c latest y recorded) u (goes_on e made l v) many = (
        omega (arith, made, many, (reached s (whole s h.admitted) k c latest y recorded u).on_record.few),
        let (counted, below) = below_bound s (whole s h.admitted) k c latest y recorded u in omega (arith, made),
      )
      go (ended c recorded) u (has_ended e made) many =
          let at_end = ended_after s (whole s h.admitted) k c recorded u in (
            omega (arith, made, many, at_end.on_record.few),
            omega (arith, made, at_end.bounded),
          )

  -- while it goes on a round can be made
  goes_from : state.ended ≡ 0 → Begun s (progress_of state)
  goes_from on =
      begun s h.admitted (progress_of state)
      (record { made = k; shows = subst (Shows s (progress_of state)) (sym so_far) h.shows })
      (ap (λ (m : ℕ). not (eqb m 0)) on)

  pub left_fits : Fits s state (length left.pairs) (length left.plan.trains) (length left.plan.times)
  left_fits =
      record {
        admitted = h.admitted;
        room = test_true (decides_search_room s left) h.room;
        few_pairs = few.0;
        few_rounds = few.1;
        begun = goes_from;
      }

-- ---- the test of it, where the tests of sheet and areas say t

module _ (s : Sheet) (state : State) (pairs trains times : ℕ) (t : Admission) (is : t ≡ tested s (search_room s pairs trains times)) where
  abbrev FitsAt : Type 0
  FitsAt = Fits s state pairs trains times

  pub unfit : (r : Refusal) → t ≡ Err r → Decides FitsAt false
  unfit r e =
      record {
        sound = λ x. absurd x;
        complete = λ f. let granted = is ∙ passes s _ f.admitted f.room in absurd (let z : ◌≡◌ {A = ℕ} 0 1 = cc in omega arith);
      }

  module _ (granted : t ≡ Ok tt) where
    abbrev few_test : Bool
    few_test = leb state.pairs state.rounds && leb state.rounds (rounds_bound s)

    decides_few : Decides ((state.pairs ≤ state.rounds) × (state.rounds ≤ rounds_bound s)) few_test
    decides_few = decides_and (decides_le state.pairs state.rounds) (decides_le state.rounds (rounds_bound s))

    fit_so : (state.pairs ≤ state.rounds) × (state.rounds ≤ rounds_bound s) → (state.ended ≡ 0 → Begun s (progress_of state)) → FitsAt
    fit_so f b =
        let (a, room) = passed s _ (sym is ∙ granted) in
        record { admitted = a; room = room; few_pairs = f.0; few_rounds = f.1; begun = b }

    -- at the end the counts decide
    pub decides_ended : ¬ (state.ended ≡ 0) → Decides FitsAt few_test
    decides_ended over = decides_iff (λ f. fit_so f (λ e. absurd (over e))) (λ f. (f.few_pairs, f.few_rounds)) decides_few

    -- else also whether a round can be made
    pub decides_going : state.ended ≡ 0 → (b : Bool) → Decides (Begun s (progress_of state)) b → Decides FitsAt (b && few_test)
    decides_going on b d =
        decides_iff (λ f. fit_so f.1 (λ e. f.0)) (λ f. (f.begun on, (f.few_pairs, f.few_rounds))) (decides_and d decides_few)
