-- What a round call knows leads to its contract: the state does not fit, or it is at the end, or a round was made. Assumes nothing.
use Rattle.std.specs.Prelude.{◌≡◌, refl, ◌⊎◌, not, ℕ, ◌≤◌, length}
use Rattle.std.proofs.Common.{sym, ap, ◌∙◌, subst, inl, inr, arith}
use Rattle.numbers.specs.DecidesLaws.{test_means, test_false, decides_eq}
use Rattle.model.specs.Sheet.{Sheet}
use Rattle.model.specs.Refusal.{of_round, number_of, returned_of}
use Rattle.model.specs.declared.RoundReply.{RoundReply}
use Rattle.model.specs.declared.RoundReply.TheVariants.{Ended}
use Rattle.rounds.specs.Outset.{ordinary}
use Rattle.rounds.specs.Rounds.{Search, recorded_in}
use Rattle.rounds.specs.ByRound.{SearchAreas, Calls, then_round, search_by, said, areas_by}
use Rattle.rounds.proofs.ByRoundLaws.{decides_search_room, no_more_rounds}
use Rattle.search.specs.Shows.{Shows}
use Rattle.search.proofs.RunLaws.{over_means}
use Rattle.watch.specs.State.{progress_of, said_of}
use Rattle.watch.proofs.StateLaws.{SaidSo, goes, none, some, said_so, said_is}
use Rattle.watch.specs.Fit.{Fits}
use Rattle.watch.proofs.FitLaws.{left_fits}
use Rattle.watch.specs.LeftBy.{LeftBy}
use Rattle.watch.proofs.PlanLaws.{prompt_here}
use Rattle.watch.specs.Calls.{RoundCall}
use Rattle.watch.specs.Advance.{Advanced}
use Rattle.watch.specs.declared.State.{State}
use Rattle.watch.specs.declared.Moved.{Moved}

abbrev moved : State → RoundReply → Moved
moved x r = record { state = x; reply = r }

-- ---- what is said of whatever state

-- nothing but 8 is refused, and 0 is returned
refuses_so : (x : State) (r : RoundReply) → SaidSo x r → (number_of (of_round r) ≡ 0) ⊎ (number_of (of_round r) ≡ 8)
refuses_so x r (goes e) = inl refl
refuses_so x r (none e z) = inr refl
refuses_so x r (some e z) = inl refl

zero_so : (x : State) (r : RoundReply) → SaidSo x r → returned_of (of_round r) ≡ 0
zero_so x r (goes e) = refl
zero_so x r (none e z) = refl
zero_so x r (some e z) = refl

-- 8 is told where nothing is recorded
eight_so : (x : State) (r : RoundReply) → SaidSo x r → 1 ≤ number_of (of_round r) → x.pairs ≡ 0
eight_so x r (goes e) l = absurd (omega arith)
eight_so x r (none e z) l = z
eight_so x r (some e z) l = absurd (omega arith)

-- an end with pairs tells of those of the state, and there are some
ended_pairs : (x : State) (r : RoundReply) → SaidSo x r → (pairs rounds : ℕ) → r ≡ Ended pairs rounds → (pairs ≡ x.pairs) × (¬ (pairs ≡ 0))
ended_pairs x r (goes e) pairs rounds u = absurd (let z : ◌≡◌ {A = ℕ} 0 1 = cc in omega arith)
ended_pairs x r (none e z) pairs rounds u = absurd (let z : ◌≡◌ {A = ℕ} 0 1 = cc in omega arith)
ended_pairs x r (some e z) pairs rounds u = let same : pairs ≡ x.pairs = cc in (same, λ v. z (omega arith))

module _ (s : Sheet) (state : State) (found : SearchAreas) where
  abbrev pub FitsHere : Type 0
  FitsHere = Fits s state (length found.pairs) (length found.plan.trains) (length found.plan.times)

  -- WHAT DOES NOT FIT is left as it is
  pub round_none : ¬ FitsHere → RoundCall s state (moved state (Ended 0 0)) found found
  round_none foreign =
      record {
        moves = λ lent calls h. absurd (foreign (left_fits s lent calls state found h));
        says = λ lent calls h. absurd (foreign (left_fits s lent calls state found h));
        prompt = λ lent calls h some. absurd (foreign (left_fits s lent calls state found h));
        after_the_end = λ e. (refl, refl);
        no_search = λ e. (refl, refl);
        within = λ pairs rounds e. let z : pairs ≡ 0 = cc in omega arith;
        refuses = inl refl;
        returns_zero = refl;
        as_found = λ l. refl;
      }

  -- AT THE END nothing moves
  module _ (over : ¬ (state.ended ≡ 0)) where
    stays : (lent : SearchAreas) (calls : Calls) → LeftBy s lent calls state found → search_by s (then_round calls) ≡ search_by s calls
    stays lent calls h =
        no_more_rounds s calls _ _
        (over_means s (ordinary s) (progress_of state) (search_by s calls) h.shows (ap not (test_false (decides_eq state.ended 0) over)))

    pub round_ended : FitsHere → RoundCall s state (moved state (said_of state)) found found
    round_ended fits =
        record {
          moves = λ lent calls h.
              let x = sym (stays lent calls h) in
              record {
                admitted = h.admitted;
                room = h.room;
                shows = subst (Shows s (progress_of state)) x h.shows;
                pairs_are = h.pairs_are ∙ ap (λ (y : Search). length (recorded_in y)) x;
                areas_are = h.areas_are ∙ ap (λ (y : Search). areas_by s y lent) x;
              };
          says = λ lent calls h. said_is s lent calls state found h ∙ ap said (sym (stays lent calls h));
          prompt = λ lent calls h. prompt_here s lent calls state found h;
          after_the_end = λ e. (refl, refl);
          no_search = λ e. (refl, refl);
          within = λ pairs rounds e.
              omega (
                arith,
                (ended_pairs state (said_of state) (said_so state) pairs rounds e).0,
                fits.few_pairs,
                fits.few_rounds,
                (test_means (decides_search_room s found) fits.room).list,
              );
          refuses = refuses_so state (said_of state) (said_so state);
          returns_zero = zero_so state (said_of state) (said_so state);
          as_found = λ l. refl;
        }

  -- A ROUND WAS MADE
  pub round_made : state.ended ≡ 0 → (next : State) (left : SearchAreas) → Advanced s state next left found
      → RoundCall s state (moved next (said_of next)) left found
  round_made on next left advanced =
      let so = said_so next in
      record {
        moves = advanced.moves;
        says = λ lent calls h. said_is s lent (then_round calls) next left (advanced.moves lent calls h);
        prompt = λ lent calls h. prompt_here s lent (then_round calls) next left (advanced.moves lent calls h);
        after_the_end = λ e. absurd (e on);
        no_search = λ e. absurd ((ended_pairs next (said_of next) so 0 0 e).1 refl);
        within = λ pairs rounds e. omega (arith, (ended_pairs next (said_of next) so pairs rounds e).0, advanced.within);
        refuses = refuses_so next (said_of next) so;
        returns_zero = zero_so next (said_of next) so;
        as_found = λ l. advanced.as_found (eight_so next (said_of next) so l);
      }
