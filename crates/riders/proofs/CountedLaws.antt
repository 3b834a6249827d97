-- One order moves to another train, and the counts follow. Assumes nothing.
use Rattle.std.specs.Prelude.{◌≡◌, refl, ◌⊎◌, List, ℕ, suc, ◌+◌, ◌-◌, ◌≤◌, ◌<◌, length, set}
use Rattle.std.proofs.Common.{sym, ap, ◌∙◌, inl, inr, arith, length-set, get_or-set_same, get_or-set_other}
use Rattle.numbers.specs.Counting.{at, count}
use Rattle.numbers.specs.DecidesLaws.{decides_eq, decided}
use Rattle.numbers.specs.CountingLaws.{count_mono, count_cong, count_le, count_disj, count_union, count_point}
use Rattle.rounds.specs.Riding.{on}
use Rattle.rounds.proofs.LoadingLaws.{decides_on}
use Rattle.riders.specs.Riders.{Counted}

-- ---- one store

pub data AtSet (l : List ℕ) (j v y : ℕ) : Type 0 where
  here : y ≡ j → at (set l j v) y ≡ v → AtSet l j v y
  elsewhere : ¬ (y ≡ j) → at (set l j v) y ≡ at l y → AtSet l j v y

pub at_set : (l : List ℕ) (j v y : ℕ) → j < length l → AtSet l j v y
at_set l j v y h = go (decided (decides_eq y j))
  where
    go : (y ≡ j) ⊎ (¬ (y ≡ j)) → AtSet l j v y
    go (inl u) = here u (rw u (get_or-set_same l j v 0 h))
    go (inr u) = elsewhere u (get_or-set_other l j y v 0 u)

-- ---- one order more on train i

pub one_more : (n i j : ℕ) (before after : List ℕ) → j < n → ¬ (at before j ≡ i) → at after j ≡ i
    → ((y : ℕ) → ¬ (y ≡ j) → at after y ≡ at before y) → count (on after i) n ≡ suc (count (on before i) n)
one_more n i j before after l off is same =
    omega (
      arith,
      count_point n j l,
      count_disj (λ y. decides_eq y j) (decides_on before i) (decides_on after i) n (λ y ly u. ap (at after) u ∙ is)
          (λ y ly e. same y (λ u. off (sym (ap (at before) u) ∙ e)) ∙ e) (λ y ly u e. off (sym (ap (at before) u) ∙ e)),
      count_union (λ y. decides_eq y j) (decides_on before i) (decides_on after i) n (λ y ly e. split y e (decided (decides_eq y j))),
    )
  where
    split : (y : ℕ) → at after y ≡ i → (y ≡ j) ⊎ (¬ (y ≡ j)) → (y ≡ j) ⊎ (at before y ≡ i)
    split y e (inl u) = inl u
    split y e (inr u) = inr (sym (same y u) ∙ e)

module _ (n : ℕ) (train riders : List ℕ) (c : Counted n train riders) where
  -- whoever rides a train is counted there
  pub rides_one : (j : ℕ) → j < n → at train j ≤ 32 → 1 ≤ at riders (at train j)
  rides_one j l low =
      omega (
        arith,
        c.counted (at train j) low,
        count_point n j l,
        count_mono (λ y. decides_eq y j) (decides_on train (at train j)) n (λ y ly u. ap (at train) u),
      )

  pub few_ride : n ≤ 200 → (i : ℕ) → i ≤ 32 → at riders i ≤ 200
  few_ride few i low = omega (arith, c.counted i low, count_le (on train i) n)

  -- order j moves from its train to train i
  module _ (j : ℕ) (l : j < n) (few : n ≤ 200) (i : ℕ) (low : i ≤ 32) (from : at train j ≤ 32) (off : ¬ (at train j ≡ i)) where
    abbrev less : List ℕ
    less = set riders (at train j) (at riders (at train j) - 1)

    pub counted_moved : Counted n (set train j i) (set less i (at less i + 1))
    counted_moved =
        record {
          places = length-set train j i ∙ c.places;
          trains = length-set less i _ ∙ length-set riders (at train j) _ ∙ c.trains;
          counted = λ m h. go m h (at_set less i (at less i + 1) m (omega (arith, length-set riders (at train j) (at riders (at train j) - 1), c.trains)))
              (at_set riders (at train j) (at riders (at train j) - 1) m (omega (arith, c.trains)));
        }
      where
        now : (y : ℕ) → ¬ (y ≡ j) → at (set train j i) y ≡ at train y
        now y u = get_or-set_other train j y i 0 u

        is : at (set train j i) j ≡ i
        is = get_or-set_same train j i 0 (omega (arith, c.places))

        joins : count (on (set train j i) i) n ≡ suc (count (on train i) n)
        joins = one_more n i j train (set train j i) l off is now

        leaves : count (on train (at train j)) n ≡ suc (count (on (set train j i) (at train j)) n)
        leaves = one_more n (at train j) j (set train j i) train l (λ e. off (sym (sym is ∙ e))) refl (λ y u. sym (now y u))

        others : (m : ℕ) → ¬ (m ≡ i) → ¬ (m ≡ at train j) → count (on (set train j i) m) n ≡ count (on train m) n
        others m u v =
            count_cong (decides_on (set train j i) m) (decides_on train m) n (λ y ly e. back y e (decided (decides_eq y j)))
            (λ y ly e. now y (λ z. v (sym e ∙ ap (at train) z)) ∙ e)
          where
            back : (y : ℕ) → at (set train j i) y ≡ m → (y ≡ j) ⊎ (¬ (y ≡ j)) → at train y ≡ m
            back y e (inl z) = absurd (u (sym e ∙ ap (at (set train j i)) z ∙ is))
            back y e (inr z) = sym (now y z) ∙ e

        go : (m : ℕ) → m ≤ 32 → AtSet less i (at less i + 1) m → AtSet riders (at train j) (at riders (at train j) - 1) m
            → at (set less i (at less i + 1)) m ≡ count (on (set train j i) m) n
        go m h (here e f) a = rw e
            (rw e at f ∙ omega (arith, get_or-set_other riders (at train j) i (at riders (at train j) - 1) 0 (λ z. off (sym z)), c.counted i low, joins))
        go m h (elsewhere e f) (here a b) = rw a (rw a at f ∙ rw a at b ∙ omega (arith, c.counted (at train j) from, leaves))
        go m h (elsewhere e f) (elsewhere a b) = f ∙ b ∙ c.counted m h ∙ sym (others m e a)

    -- so they stay few
    pub few_moved : at less i + 1 ≤ 200
    few_moved =
        omega (
          arith,
          counted_moved.counted i low,
          get_or-set_same less i (at less i + 1) 0 (omega (arith, length-set riders (at train j) (at riders (at train j) - 1), c.trains)),
          count_le (on (set train j i) i) n,
        )
