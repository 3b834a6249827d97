-- WHAT HOLDS AFTER EVERY LIST OF CALLS. Assumes nothing.
use Rattle.std.specs.Prelude.{◌≡◌, refl, true, not, List, ℕ, eqb}
use Rattle.std.proofs.Common.{ap, ◌∙◌, arith}
use Rattle.numbers.specs.DecidesLaws.{one_outcome}
use Rattle.model.specs.Sheet.{Sheet}
use Rattle.model.specs.declared.RoundReply.TheVariants.{GoesOn}
use Rattle.rounds.specs.Recording.{Entry}
use Rattle.rounds.specs.Rounds.{Search, ended}
use Rattle.rounds.specs.ByRound.{SearchAreas, Calls, search_by, said}
use Rattle.rounds.proofs.ByRoundLaws.{ended_so}
use Rattle.front.proofs.Front.{look_gives, look_final, further_round, end_comes, end_unbroken}
use Rattle.search.specs.Shows.{Stands, goes_on, has_ended}
use Rattle.watch.specs.State.{progress_of}
use Rattle.watch.specs.LeftBy.{LeftBy}
use Rattle.watch.proofs.PlanLaws.{prompt_here}
use Rattle.watch.specs.AnyCalls.{Made, starts, moves, looks, AsUnbroken, AfterCalls}
use Rattle.watch.specs.declared.State.{State}

module _ (s : Sheet) (lent : SearchAreas) where
  -- each call leaves what the next one asks for
  pub left_by : {calls : Calls} {state : State} {left : SearchAreas} → Made s lent calls state left → LeftBy s lent calls state left
  unfolding search_by
  left_by (starts {x = x} c granted) = c.begins x granted
  left_by (moves m c) = c.moves lent _ (left_by m)
  left_by (looks m c) =
      let h = left_by m in
      record { admitted = h.admitted; room = h.room; shows = h.shows; pairs_are = h.pairs_are; areas_are = h.areas_are }

  module _ (calls : Calls) (state : State) (left : SearchAreas) (h : LeftBy s lent calls state left) where
    abbrev AtEnd : Type 0
    AtEnd = ¬ (said (search_by s calls) ≡ GoesOn)

    -- the state of an ended search says so
    says_ended : AtEnd → ¬ (state.ended ≡ 0)
    says_ended e zero = go (search_by s calls) _ _ (ended_so (search_by s calls) e) h.shows.stands
      where
        off : (progress_of state).ended ≡ true → ⊥
        off f = one_outcome f (ap (λ (m : ℕ). not (eqb m 0)) zero)

        go : (x : Search) (c : ℕ) (recorded : List Entry) → x ≡ ended c recorded → Stands s.orders (progress_of state) x → ⊥
        go x c recorded u (has_ended f made) = off f
        go x c recorded u (goes_on f made l v) = let z : ◌≡◌ {A = ℕ} 0 1 = cc in omega arith

    unbroken : AtEnd → AsUnbroken s lent calls left
    unbroken e =
        let there = end_unbroken s h.admitted calls e in
        record {
          says = there.says;
          pairs = ap (λ (x : SearchAreas). x.pairs) h.areas_are ∙ there.pairs lent;
          plan = ap (λ (x : SearchAreas). x.plan) h.areas_are ∙ there.plan lent;
        }

  -- "FOR EVERY LIST OF THESE CALLS AFTER AN ACCEPTED START"
  pub any_calls : (calls : Calls) (state : State) (left : SearchAreas) → Made s lent calls state left → AfterCalls s lent calls state left
  any_calls calls state left m =
      let h = left_by m in
      let a = h.admitted in
      record {
        look = λ count c. c.sees s lent calls left h refl ∙ look_gives s calls;
        final = λ later then_state then_left t n count then_count c d.
            rw (c.sees s lent calls left h refl, d.sees s lent later then_left (left_by n) refl) (look_final s a calls later t);
        says = λ r next c. c.says lent calls h;
        further = λ e r next c.
            let (state_kept, left_kept) = c.after_the_end (says_ended calls state left h e) in
            (state_kept, left_kept, c.says lent calls h ∙ ap said (further_round s calls e));
        ends = end_comes s a calls;
        as_unbroken = unbroken calls state left h;
        prompt = prompt_here s lent calls state left h;
      }
