-- Step 3: the pairs listed, at any time, are the front of the schedules whose worst lateness is not below the limit y. Assumes nothing.
use Rattle.std.specs.Prelude.{◌≡◌, ◌⊎◌, ℕ, ◌≤◌, ℤ, ◌≤ℤ◌, ◌<ℤ◌}
use Rattle.std.proofs.Math.Path.{refl}
use Rattle.std.proofs.Common.{sym, subst, inl, inr, arith}
use mathlib.Core.List.{List, [], ◌∷◌, ◌++◌}
use Rattle.std.specs.Int.Signed.{<ℤ-≤ℤ_trans, clash_ℤ}
use Rattle.numbers.specs.DecidesLaws.{decides_eq, decides_ltℤ, decided}
use Rattle.numbers.specs.SignedLaws.{≤ℤ_trans, <ℤ_weaken, ≮ℤ_≤ℤ, ≤ℤ_<ℤ_trans}
use Rattle.numbers.specs.OneMoreLaws.{All, Some, all_more, some_old, some_new, some_split}
use Rattle.model.specs.Sheet.{Sheet}
use Rattle.model.specs.Lateness.{Pair, pair_of, AtLeastAsGood}
use Rattle.rounds.specs.Recording.{Entry, record_entry, listed, no_pair}
use Rattle.rounds.proofs.RecordingLaws.{record_same, record_other, listed_behind}
use Rattle.rounds.specs.EntryPlan.{EntryPlanAmong}
use Rattle.rounds.specs.Rounds.{above_everything}
use Rattle.rounds.proofs.PairListLaws.{Before, Rising, rising_more}
use Rattle.rounds.proofs.AimLaws.{Aim, below_first}

-- p is at least as good as this schedule
abbrev pub Matches : Sheet → (train departure : List ℕ) → Pair → Type 0
Matches s train departure p = AtLeastAsGood p (pair_of s train departure)

module _ (s : Sheet) (a : Aim s) where
  -- p is the pair of some schedule
  abbrev pub Belongs : Pair → Type 0
  Belongs p = (train : List ℕ) × (departure : List ℕ) × a.Among train departure × (pair_of s train departure ≡ p)

  -- an entry's pair is that of its plan
  pub belongs_to : (e : Entry) → EntryPlanAmong s a.Among e → Belongs e.pair
  belongs_to e h = (e.plan.train, e.plan.departure, h.schedule, h.pair)

  -- no schedule below the limit y arrives before p
  abbrev pub Soonest : ℤ → Pair → Type 0
  Soonest y p =
      (train departure : List ℕ) → a.Among train departure → (pair_of s train departure).worst <ℤ y → p.last ≤ (pair_of s train departure).last

  -- every schedule that is not below the limit y is matched
  abbrev pub Matched : ℤ → List Pair → Type 0
  Matched y pairs =
      (train departure : List ℕ) → a.Among train departure → y ≤ℤ (pair_of s train departure).worst → Some no_pair (Matches s train departure) pairs

  -- so a schedule's pair that is better than p₀, before which no better one arrives, does not arrive before it
  pub not_before : (p₀ : Pair) → Soonest p₀.worst p₀ → (p : Pair) → Belongs p → p.worst <ℤ p₀.worst → p₀.last ≤ p.last
  not_before p₀ ahead p (train, departure, h, e) better =
      subst (λ (v : Pair). p₀.last ≤ v.last) e (ahead train departure h (subst (λ (v : Pair). v.worst <ℤ p₀.worst) (sym e) better))

  -- p is the pair listed last, and the limit is its worst lateness
  pub record FrontSoFar (before : List Pair) (p : Pair) : Type 0 where
    pub ahead : Soonest p.worst p
    pub covers : Matched p.worst (before ++ (p ∷ []))
    pub beyond : All no_pair (λ p'. Before p' p) before
    pub rising : Rising before

  -- what is recorded where the limit is y
  pub data Recorded (y : ℤ) : List Entry → Type 0 where
    nothing_yet : y ≡ above_everything → Recorded y []
    so_far : (before : List Entry) (e : Entry) → y ≡ e.pair.worst → FrontSoFar (listed before) e.pair → Recorded y (before ++ (e ∷ []))

  -- a round's pair p, better than the limit y, that arrives no later than any schedule below y
  module _ (y : ℤ) (p : Pair) (own : Belongs p) (better : p.worst <ℤ y) (sooner : Soonest y p) where
    -- it goes behind the pairs `before`
    goes_behind : (before : List Pair) → Matched y (before ++ (p ∷ [])) → All no_pair (λ p'. Before p' p) before → Rising before → FrontSoFar before p
    goes_behind before matched beyond rising =
        record {
          ahead = λ train departure h l. sooner train departure h (<ℤ-≤ℤ_trans l (<ℤ_weaken better));
          covers = λ train departure h l. go train departure h l (decided (decides_ltℤ (pair_of s train departure).worst y));
          beyond = beyond;
          rising = rising;
        }
      where
        go : (train departure : List ℕ) → a.Among train departure → p.worst ≤ℤ (pair_of s train departure).worst
            → ((pair_of s train departure).worst <ℤ y) ⊎ (¬ ((pair_of s train departure).worst <ℤ y))
            → Some no_pair (Matches s train departure) (before ++ (p ∷ []))
        go train departure h l (inl u) =
            some_new no_pair before p (Matches s train departure) (record { no_later = sooner train departure h u; no_worse = l })
        go train departure h l (inr u) = matched train departure h (≮ℤ_≤ℤ u)

    module _ (before : List Pair) (p₀ : Pair) (limit : y ≡ p₀.worst) (H : FrontSoFar before p₀) where
      better₀ : p.worst <ℤ p₀.worst
      better₀ = subst (λ (v : ℤ). p.worst <ℤ v) limit better

      no_sooner : p₀.last ≤ p.last
      no_sooner = not_before p₀ H.ahead p own better₀

      matched₀ : Matched y (before ++ (p₀ ∷ []))
      matched₀ train departure h l = H.covers train departure h (subst (λ (v : ℤ). v ≤ℤ (pair_of s train departure).worst) limit l)

      -- the pairs before p₀ are before p too
      beyond₀ : All no_pair (λ p'. Before p' p) before
      beyond₀ k l =
          let b = H.beyond k l in
          record { earlier = omega (arith, no_sooner, b.earlier); worse = ≤ℤ_<ℤ_trans (<ℤ_weaken better₀) b.worse }

      -- "A recorded pair with the same F_q as the one before replaces it."
      replaces : p₀.last ≡ p.last → FrontSoFar before p
      replaces e =
          goes_behind before
          (λ train departure h l. go train departure l (some_split no_pair before p₀ (Matches s train departure) (matched₀ train departure h l)))
          beyond₀ H.rising
        where
          go : (train departure : List ℕ) → y ≤ℤ (pair_of s train departure).worst
              → Some no_pair (Matches s train departure) before ⊎ Matches s train departure p₀
              → Some no_pair (Matches s train departure) (before ++ (p ∷ []))
          go train departure l (inl u) = some_old no_pair before p (Matches s train departure) u
          go train departure l (inr u) =
              some_new no_pair before p (Matches s train departure)
              (record { no_later = omega (arith, u.no_later); no_worse = ≤ℤ_trans (<ℤ_weaken better) l })

      follows : ¬ (p₀.last ≡ p.last) → FrontSoFar (before ++ (p₀ ∷ [])) p
      follows e =
          goes_behind (before ++ (p₀ ∷ []))
          (λ train departure h l. some_old no_pair (before ++ (p₀ ∷ [])) p (Matches s train departure) (matched₀ train departure h l))
          (all_more no_pair before p₀ (λ p'. Before p' p) beyond₀ (record { earlier = omega (arith, no_sooner); worse = better₀ }))
          (rising_more before p₀ H.rising H.beyond)

  -- STEP 3 KEEPS IT
  module _ (y : ℤ) (e : Entry) (own : Belongs e.pair) (better : e.pair.worst <ℤ y) (sooner : Soonest y e.pair) where
    pub recording : (entries : List Entry) → Recorded y entries → Recorded e.pair.worst (record_entry entries e)
    unfolding record_entry listed
    recording entries (nothing_yet limit) =
        so_far [] e refl
        (goes_behind y e.pair own better sooner []
        (λ train departure h l. clash_ℤ (below_first s a train departure h)
        (subst (λ (v : ℤ). v ≤ℤ (pair_of s train departure).worst) limit l))
        (λ k l. absurd (omega arith)) (λ i k l m. absurd (omega arith)))
    recording entries (so_far before e₀ limit H) = go (decided (decides_eq e₀.pair.last e.pair.last))
      where
        go : (e₀.pair.last ≡ e.pair.last) ⊎ (¬ (e₀.pair.last ≡ e.pair.last)) → Recorded e.pair.worst (record_entry (before ++ (e₀ ∷ [])) e)
        go (inl u) =
            rw (record_same before e₀ e u)
            (so_far before e refl (replaces y e.pair own better sooner (listed before) e₀.pair limit H u))
        go (inr u) =
            rw (record_other before e₀ e u)
            (so_far (before ++ (e₀ ∷ [])) e refl
            (rw (listed_behind before e₀) (follows y e.pair own better sooner (listed before) e₀.pair limit H u)))
