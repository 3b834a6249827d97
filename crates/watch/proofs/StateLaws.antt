-- What is kept of a progress shows what that shows, and what is said of a state is what is said of its search. Assumes nothing.
use Rattle.std.specs.Prelude.{◌≡◌, ◌⊎◌, Bool, true, false, not, [], ◌∷◌, ℕ, eqb}
use Rattle.std.proofs.Math.Path.{refl, sym, ap}
use Rattle.std.proofs.Common.{◌∙◌, inl, inr, arith}
use Rattle.std.proofs.Math.Bool.{cond}
use Rattle.std.proofs.Math.ListN.{length}
use Rattle.numbers.specs.DecidesLaws.{decides_eq, decided, cond_yes, cond_no, test_true, test_false, by_now, not_yet}
use Rattle.model.specs.Sheet.{Sheet}
use Rattle.model.specs.declared.Refusal.TheVariants.{NoSchedule}
use Rattle.model.specs.declared.RoundReply.{RoundReply}
use Rattle.model.specs.declared.RoundReply.TheVariants.{GoesOn, Ended, Refused}
use Rattle.rounds.specs.Recording.{listed}
use Rattle.rounds.proofs.RecordingLaws.{listed_length}
use Rattle.rounds.specs.Rounds.{Search, going, ended, recorded_in}
use Rattle.rounds.specs.Answers.{list_of}
use Rattle.rounds.specs.ByRound.{SearchAreas, Calls, search_by, end_of, said}
use Rattle.rounds.proofs.ByRoundLaws.{said_going, said_ended}
use Rattle.search.specs.Shows.{Stands, goes_on, has_ended, Shows}
use Rattle.search.specs.declared.Progress.{Progress}
use Rattle.watch.specs.State.{progress_of, state_of, said_of}
use Rattle.watch.specs.LeftBy.{LeftBy}
use Rattle.watch.specs.declared.State.{State}

pub shows_kept : (s : Sheet) (p : Progress) (pairs : ℕ) (x : Search) → Shows s p x → Shows s (progress_of (state_of p pairs)) x
shows_kept s p pairs x h = record { orderly = h.orderly; stands = go x h.stands; last = h.last }
  where
    kept : (b : Bool) → not (eqb (cond b 1 0) 0) ≡ b
    kept true = refl
    kept false = refl

    go : (x : Search) → Stands s.orders p x → Stands s.orders (progress_of (state_of p pairs)) x
    go x (goes_on e c l y) = goes_on (kept p.ended ∙ e) c l y
    go x (has_ended e c) = has_ended (kept p.ended ∙ e) c

-- ---- what is said of a state

pub data SaidSo (x : State) : RoundReply → Type 0 where
  goes : x.ended ≡ 0 → SaidSo x GoesOn
  none : ¬ (x.ended ≡ 0) → x.pairs ≡ 0 → SaidSo x (Refused NoSchedule)
  some : ¬ (x.ended ≡ 0) → ¬ (x.pairs ≡ 0) → SaidSo x (Ended x.pairs x.rounds)

pub said_so : (x : State) → SaidSo x (said_of x)
said_so x = go (decided (decides_eq x.ended 0)) (decided (decides_eq x.pairs 0))
  where
    go : (x.ended ≡ 0) ⊎ (¬ (x.ended ≡ 0)) → (x.pairs ≡ 0) ⊎ (¬ (x.pairs ≡ 0)) → SaidSo x (said_of x)
    go (inl e) v = rw (test_true (decides_eq x.ended 0) e) (goes e)
    go (inr e) (inl z) = rw (test_false (decides_eq x.ended 0) e, test_true (decides_eq x.pairs 0) z) (none e z)
    go (inr e) (inr z) = rw (test_false (decides_eq x.ended 0) e, test_false (decides_eq x.pairs 0) z) (some e z)

module _ (s : Sheet) (lent : SearchAreas) (calls : Calls) (state : State) (left : SearchAreas) (h : LeftBy s lent calls state left) where
  -- the end that the state would tell
  abbrev outcome : RoundReply
  outcome = cond (eqb state.pairs 0) (Refused NoSchedule) (Ended state.pairs state.rounds)

  -- WHAT IS SAID OF A STATE THAT THESE CALLS LEFT
  pub said_is : said_of state ≡ said (search_by s calls)
  unfolding end_of list_of listed
  said_is = go (search_by s calls) h.shows.stands h.pairs_are
    where
      go : (x : Search) → Stands s.orders (progress_of state) x → state.pairs ≡ length (recorded_in x) → said_of state ≡ said x
      go (going c latest y recorded) (goes_on e made l v) many =
          ap (λ (b : Bool). cond b GoesOn outcome) (by_now (eqb state.ended 0) e) ∙ sym (said_going c latest y recorded)
      go (ended c []) (has_ended e made) many =
          ap (λ (b : Bool). cond b GoesOn outcome) (not_yet (eqb state.ended 0) e)
          ∙ cond_yes (decides_eq state.pairs 0) many _ _
          ∙ sym (said_ended c [])
      go (ended c (e₀ ∷ es)) (has_ended e made) many =
          ap (λ (b : Bool). cond b GoesOn outcome) (not_yet (eqb state.ended 0) e)
          ∙ cond_no (decides_eq state.pairs 0) (λ z. omega (arith, z, many)) _ _
          ∙ rw (many ∙ sym (listed_length (e₀ ∷ es)), made) refl
          ∙ sym (said_ended c (e₀ ∷ es))
