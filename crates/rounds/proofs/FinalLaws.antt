-- Of two lists that were read one after the other: all pairs of the first but the last are final, and the last may only be replaced. Assumes nothing.
use Rattle.std.specs.Prelude.{◌≡◌, refl, ◌⊎◌, List, [], ◌∷◌, ◌++◌, ℕ, suc, ◌+◌, ◌<◌, length, ◌<ℤ◌}
use Rattle.std.proofs.Common.{sym, ◌∙◌, subst, inl, inr, arith}
use Rattle.std.proofs.Math.Numerals.{add-one}
use Rattle.std.specs.Int.Signed.{<ℤ-≤ℤ_trans}
use Rattle.numbers.specs.DecidesLaws.{decides_eq, decided}
use Rattle.numbers.specs.SignedLaws.{<ℤ_weaken}
use Rattle.numbers.specs.OneMoreLaws.{more_length, more_old, more_new}
use Rattle.model.specs.Sheet.{Sheet}
use Rattle.model.specs.Lateness.{Pair, pair_at}
use Rattle.model.specs.Admission.{Admitted}
use Rattle.rounds.specs.Recording.{Entry, record_entry, listed, no_pair, no_entry}
use Rattle.rounds.proofs.RecordingLaws.{FromEnd, nothing, behind, from_end, record_same, record_other, listed_behind, last_behind}
use Rattle.rounds.specs.Rounds.{recorded_after}
use Rattle.rounds.specs.ByRound.{Calls, then_round, then_look, round_calls, Then, no_more, more_rounds, more_looks, search_by, seen, Replaced, Final}
use Rattle.rounds.proofs.AimLaws.{whole}
use Rattle.rounds.proofs.ArrivalLaws.{LessLate, Next, next_recorded}
use Rattle.rounds.proofs.ArrivalLaws as arrivals
use Rattle.rounds.proofs.ByRoundLaws.{seen_is}

-- ---- one reading behind another

final_refl : (read : List Pair) → Final read read
final_refl read = record { no_fewer = omega arith; kept = λ i l. refl; last = λ i e. inl refl }

-- a pair was kept, or replaced
abbrev KeptOrReplaced : (p by : Pair) → Type 0
KeptOrReplaced p by = (by ≡ p) ⊎ Replaced p by

kept_on : (p by then : Pair) → KeptOrReplaced p by → KeptOrReplaced by then → KeptOrReplaced p then
kept_on p by then (inl u) (inl v) = inl (v ∙ u)
kept_on p by then (inl u) (inr v) = inr (subst (λ (x : Pair). Replaced x then) u v)
kept_on p by then (inr u) (inl v) = inr (subst (λ (x : Pair). Replaced p x) (sym v) u)
kept_on p by then (inr u) (inr v) =
    inr record { same_arrival = v.same_arrival ∙ u.same_arrival; less_late = <ℤ-≤ℤ_trans v.less_late (<ℤ_weaken u.less_late) }

final_trans : (read next later : List Pair) → Final read next → Final next later → Final read later
final_trans read next later f g =
    record {
      no_fewer = omega (arith, f.no_fewer, g.no_fewer);
      kept = λ i l. g.kept i (omega (arith, f.no_fewer)) ∙ f.kept i l;
      last = λ i e. kept_on (pair_at read i) (pair_at next i) (pair_at later i) (f.last i e) (go i e (decided (decides_eq (suc i) (length next))));
    }
  where
    go : (i : ℕ) → suc i ≡ length read → (suc i ≡ length next) ⊎ (¬ (suc i ≡ length next)) → KeptOrReplaced (pair_at next i) (pair_at later i)
    go i e (inl u) = g.last i u
    go i e (inr u) = inl (g.kept i (omega (arith, f.no_fewer)))

-- ---- one round

-- a pair more
final_more : (read : List Pair) (p : Pair) → Final read (read ++ (p ∷ []))
final_more read p =
    record {
      no_fewer = omega (arith, more_length no_pair read p);
      kept = λ i l. more_old no_pair read p i (omega arith);
      last = λ i e. inl (more_old no_pair read p i (omega arith));
    }

-- the last replaced
final_replaced : (before : List Pair) (p by : Pair) → Replaced p by → Final (before ++ (p ∷ [])) (before ++ (by ∷ []))
final_replaced before p by r =
    record {
      no_fewer = omega (arith, old, new);
      kept = λ i l. let k : i < length before = omega (arith, old) in more_old no_pair before by i k ∙ sym (more_old no_pair before p i k);
      last = λ i e. let u : length before ≡ i = omega (arith, old) in
          subst (λ (i : ℕ). KeptOrReplaced (pair_at (before ++ (p ∷ [])) i) (pair_at (before ++ (by ∷ [])) i)) u
          (rw (more_new no_pair before p, more_new no_pair before by) (inr r));
    }
  where
    old : length (before ++ (p ∷ [])) ≡ length before + 1
    old = more_length no_pair before p

    new : length (before ++ (by ∷ [])) ≡ length before + 1
    new = more_length no_pair before by

-- an entry recorded that is less late than the last
final_recorded : (recorded : List Entry) (e : Entry) → LessLate recorded e → Final (listed recorded) (listed (record_entry recorded e))
unfolding listed
final_recorded recorded e late = go recorded (from_end recorded) late
  where
    go : (recorded : List Entry) → FromEnd recorded → LessLate recorded e → Final (listed recorded) (listed (record_entry recorded e))
    go recorded nothing late =
        record { no_fewer = omega arith; kept = λ i l. absurd (omega arith); last = λ i u. absurd (omega arith) }
    go recorded (behind before e₀) late = same (decided (decides_eq e₀.pair.last e.pair.last))
      where
        less : e.pair.worst <ℤ e₀.pair.worst
        less = rw (last_behind before e₀) at (late (omega (arith, more_length no_entry before e₀)))

        same : (e₀.pair.last ≡ e.pair.last) ⊎ (¬ (e₀.pair.last ≡ e.pair.last))
            → Final (listed (before ++ (e₀ ∷ []))) (listed (record_entry (before ++ (e₀ ∷ [])) e))
        same (inl u) =
            rw (record_same before e₀ e u, listed_behind before e₀, listed_behind before e)
            (final_replaced (listed before) e₀.pair e.pair (record { same_arrival = sym u; less_late = less }))
        same (inr u) =
            rw (record_other before e₀ e u, listed_behind (before ++ (e₀ ∷ [])) e)
            (final_more (listed (before ++ (e₀ ∷ []))) e.pair)

module _ (s : Sheet) (a : Admitted s) where
  one_round : (k : ℕ) → Final (listed (recorded_after s k)) (listed (recorded_after s (k + 1)))
  one_round k = go _ _ (next_recorded s (whole s a) k)
    where
      go : (recorded after : List Entry) → Next recorded after → Final (listed recorded) (listed after)
      go recorded after arrivals.no_more = final_refl (listed recorded)
      go recorded after (arrivals.one_more e l late) = final_recorded recorded e late

  round_call : (calls : Calls) → Final (seen s calls) (seen s (then_round calls))
  unfolding round_calls
  round_call calls = rw (seen_is s calls, seen_is s (then_round calls)) (rw add-one at (one_round (round_calls calls)))

  -- "ALL PAIRS READ BUT THE LAST ARE FINAL; THE LAST MAY ONLY BE REPLACED BY ONE WITH THE SAME ARRIVAL AND A SMALLER LATENESS"
  pub final : (calls later : Calls) → Then calls later → Final (seen s calls) (seen s later)
  unfolding search_by
  final calls later no_more = final_refl (seen s calls)
  final calls (then_round later) (more_rounds t) = final_trans (seen s calls) (seen s later) _ (final calls later t) (round_call later)
  final calls (then_look later) (more_looks t) = final calls later t
