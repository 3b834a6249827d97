-- The loops' counts and bounds, one order at a time. Assumes nothing.
use Rattle.std.specs.Prelude.{◌≡◌, Bool, true, false, cond, List, length, set, replicate}
use Rattle.std.proofs.Math.Path.{refl}
use Rattle.std.proofs.Common.{sym, ap, ◌∙◌, length-set}
use Prim.Native.Nat.{ℕ, zero, suc, ◌+◌, ◌≤◌, min}
use native.Mathlib.Omega.{arith}
use Rattle.std.proofs.Math.Numerals.{add-one}
use Rattle.std.proofs.lemmas.List.{length-replicate, get_or-replicate}
use Rattle.numbers.specs.Counting.{at, count}
use Rattle.numbers.specs.DecidesLaws.{Decides, decides_eq, test_true, test_false}
use Rattle.numbers.specs.CountingLaws.{count_start, count_yes, count_no}
use Rattle.rounds.specs.Riding.{on}
use Rattle.riders.specs.Standing.{standing, beyond, picked, least_of, least, Lowest}
use Rattle.riders.specs.Riders.{Counted}
use Rattle.riders.proofs.CountedLaws.{AtSet, here, elsewhere, at_set}

-- where the next one is looked at, who passes or does not
pub picked_next : (pick : ℕ → ℕ → ℕ) (none : ℕ) (test : ℕ → Bool) (value : ℕ → ℕ) (j so_far own v : ℕ) (passes : Bool) → passes ≡ test j
    → so_far ≡ picked pick none test value j → own ≡ cond passes (value j) none → v ≡ pick so_far own → v ≡ picked pick none test value (j + 1)
unfolding picked
picked_next pick none test value j so_far own v passes e a b c = rw (e, a) at (rw b at c) ∙ rw add-one

module _ (test : ℕ → Bool) (value : ℕ → ℕ) where
  pub least_start : beyond ≡ least_of test value 0
  unfolding picked
  least_start = refl

  pub least_more : (j : ℕ) → least_of test value (j + 1) ≡ min (least_of test value j) (cond (test j) (value j) beyond)
  unfolding picked
  least_more j = rw add-one

  pub least_most : (j : ℕ) → least_of test value j ≤ beyond
  unfolding picked
  least_most zero = omega arith
  least_most (suc j) = omega (arith, least_most j)

-- ---- the least standing on each train

pub lowest_start : (release : ℕ → ℕ) (train : List ℕ) → Lowest 0 release train (replicate 33 beyond)
lowest_start release train i l = get_or-replicate 33 i beyond 0 (omega arith) ∙ least_start (on train i) (standing release)

pub lowest_more : (release : ℕ → ℕ) (train low : List ℕ) (j v : ℕ) → length low ≡ 33 → at train j ≤ 32 → v ≡ min (at low (at train j)) (standing release j)
    → Lowest j release train low → Lowest (j + 1) release train (set low (at train j) v)
lowest_more release train low j v long few is h i l = go (at_set low (at train j) v i (omega arith)) (decides_eq (at train j) i)
  where
    next : (b : Bool) → on train i j ≡ b → least release train i (j + 1) ≡ min (least release train i j) (cond b (standing release j) beyond)
    next b e = least_more (on train i) (standing release) j ∙ ap (λ (c : Bool). min (least release train i j) (cond c (standing release j) beyond)) e

    go : AtSet low (at train j) v i → Decides (at train j ≡ i) (on train i j) → at (set low (at train j) v) i ≡ least release train i (j + 1)
    go (here u w) d =
        let e = h i l in
        let f : at low (at train j) ≡ at low i = ap (at low) (sym u) in
        omega (arith, next true (test_true d (sym u)), f, is)
    go (elsewhere u w) d = omega (arith, next false (test_false d (λ e. u (sym e))), h i l, least_most (on train i) (standing release) j)

-- ---- how many ride each train

pub counted_start : (train : List ℕ) → length train ≡ 200 → Counted 0 train (replicate 33 0)
counted_start train long =
    record {
      places = long;
      trains = length-replicate {A = ℕ} 33 0;
      counted = λ i l. get_or-replicate 33 i 0 0 (omega arith) ∙ count_start (on train i);
    }

pub counted_more : (train riders : List ℕ) (j : ℕ) → at train j ≤ 32 → Counted j train riders
    → Counted (j + 1) train (set riders (at train j) (at riders (at train j) + 1))
counted_more train riders j few c =
    record {
      places = c.places;
      trains = length-set riders (at train j) (at riders (at train j) + 1) ∙ c.trains;
      counted = λ i l.
          go i l (at_set riders (at train j) (at riders (at train j) + 1) i (omega (arith, c.trains))) (decides_eq (at train j) i);
    }
  where
    go : (i : ℕ) → i ≤ 32 → AtSet riders (at train j) (at riders (at train j) + 1) i → Decides (at train j ≡ i) (on train i j)
        → at (set riders (at train j) (at riders (at train j) + 1)) i ≡ count (on train i) (j + 1)
    go i l (here u w) d =
        omega (arith, ap (at riders) u, c.counted i l, count_yes (on train i) j (test_true d (sym u)))
    go i l (elsewhere u w) d = w ∙ c.counted i l ∙ count_no (on train i) j (test_false d (λ e. u (sym e)))
