-- The greatest of those who could come, and the least of those who ride. Assumes nothing.
use Rattle.std.specs.Prelude.{◌≡◌, refl, ◌⊎◌, Bool, cond, List}
use Rattle.std.proofs.Common.{◌∙◌, inl, inr}
use Rattle.std.proofs.Math.Bool.{true, false}
use Prim.Native.Nat.{ℕ, zero, suc, ◌≤◌, ◌<◌, max, min}
use native.Mathlib.Omega.{arith}
use Rattle.numbers.specs.Counting.{at}
use Rattle.numbers.specs.DecidesLaws.{Decides, decides_le, decides_lt, decides_eq, decides_and, decided, extend}
use Rattle.rounds.specs.Riding.{Below}
use Rattle.rounds.specs.Settled.{Could}
use Rattle.riders.specs.Standing.{standing, place, beyond, picked, greatest_of, least_of, could}

-- ---- one standing

module _ (release : ℕ → ℕ) where
  -- of two orders, the one with the smaller standing is below
  pub standing_below : (j k : ℕ) → j < 200 → k < 200 → ¬ (j ≡ k) → standing release j ≤ standing release k → Below release j k
  standing_below j k lj lk u h = record { no_later = omega arith; tie = λ e. omega arith }

  pub below_standing : (j k : ℕ) → j < 200 → k < 200 → Below release j k → standing release j < standing release k
  below_standing j k lj lk h = go (decided (decides_eq (release j) (release k)))
    where
      go : (release j ≡ release k) ⊎ (¬ (release j ≡ release k)) → standing release j < standing release k
      go (inl e) = omega (arith, h.tie e)
      go (inr e) = omega (arith, h.no_later)

  pub place_of : (j : ℕ) → j < 200 → place (standing release j) ≡ j
  place_of j l = omega arith

pub decides_could : (latest train : List ℕ) (i j : ℕ) → Decides (Could latest train i j) (could latest train i j)
decides_could latest train i j = decides_and (decides_lt (at train j) i) (decides_le i (at latest j))

-- ---- what is picked of those who pass a test

-- one of the first m passes, and has this value
pub record Of (P : ℕ → Type 0) (value : ℕ → ℕ) (m v : ℕ) : Type 0 where
  pub which : ℕ
  pub among : which < m
  pub holds : P which
  pub is : v ≡ value which

-- an operation picks one of two numbers, and that one beats both
record Picks (pick : ℕ → ℕ → ℕ) (BeatenBy : ℕ → ℕ → Type 0) : Type 0 where
  one_of : (a b : ℕ) → (pick a b ≡ a) ⊎ (pick a b ≡ b)
  first : (a b : ℕ) → BeatenBy a (pick a b)
  second : (a b : ℕ) → BeatenBy b (pick a b)
  beaten : (a b c : ℕ) → BeatenBy a b → BeatenBy b c → BeatenBy a c

module _ {pick : ℕ → ℕ → ℕ} {BeatenBy : ℕ → ℕ → Type 0} (picks : Picks pick BeatenBy) (none : ℕ)
    {P : ℕ → Type 0} {test : ℕ → Bool} (d : (j : ℕ) → Decides (P j) (test j)) (value : ℕ → ℕ) where
  abbrev so_far : ℕ → ℕ
  so_far m = picked pick none test value m

  picked_beats : (m j : ℕ) → j < m → P j → BeatenBy (value j) (so_far m)
  unfolding picked
  picked_beats zero j l p = absurd (omega arith)
  picked_beats (suc m) j l p =
      extend {P = λ j. P j → BeatenBy (value j) (so_far (suc m))} m
      (λ k z h. picks.beaten (value k) (so_far m) _ (picked_beats m k z h) (picks.first (so_far m) (cond (test m) (value m) none)))
      (λ h. own (test m) (d m) h) j l p
    where
      own : (b : Bool) → Decides (P m) b → P m → BeatenBy (value m) (pick (so_far m) (cond b (value m) none))
      own true t h = picks.second (so_far m) (value m)
      own false t h = absurd (t.complete h)

  picked_is : (m : ℕ) → ¬ (so_far m ≡ none) → Of P value m (so_far m)
  unfolding picked
  picked_is zero h = absurd (h refl)
  picked_is (suc m) h = go (test m) (d m) h (picked_is m) (picks.one_of (so_far m) (cond (test m) (value m) none))
    where
      go : (b : Bool) → Decides (P m) b → let v = pick (so_far m) (cond b (value m) none) in
          ¬ (v ≡ none) → (¬ (so_far m ≡ none) → Of P value m (so_far m)) → (v ≡ so_far m) ⊎ (v ≡ cond b (value m) none) → Of P value (suc m) v
      go b t h before (inl e) =
          let o = before (λ z. h (e ∙ z)) in
          record { which = o.which; among = omega (arith, o.among); holds = o.holds; is = e ∙ o.is }
      go true t h before (inr e) = record { which = m; among = omega arith; holds = t.sound tt; is = e }
      go false t h before (inr e) = absurd (h e)

greatest_picks : Picks max (λ a b. a ≤ b)
greatest_picks =
    record {
      one_of = λ a b. go a b (decided (decides_le a b));
      first = λ a b. omega arith;
      second = λ a b. omega arith;
      beaten = λ a b c h k. omega arith;
    }
  where
    go : (a b : ℕ) → (a ≤ b) ⊎ (¬ (a ≤ b)) → (max a b ≡ a) ⊎ (max a b ≡ b)
    go a b (inl h) = inr (omega arith)
    go a b (inr h) = inl (omega arith)

least_picks : Picks min (λ a b. b ≤ a)
least_picks =
    record {
      one_of = λ a b. go a b (decided (decides_le a b));
      first = λ a b. omega arith;
      second = λ a b. omega arith;
      beaten = λ a b c h k. omega arith;
    }
  where
    go : (a b : ℕ) → (a ≤ b) ⊎ (¬ (a ≤ b)) → (min a b ≡ a) ⊎ (min a b ≡ b)
    go a b (inl h) = inl (omega arith)
    go a b (inr h) = inr (omega arith)

module _ {P : ℕ → Type 0} {test : ℕ → Bool} (d : (j : ℕ) → Decides (P j) (test j)) (value : ℕ → ℕ) where
  pub greatest_above : (m j : ℕ) → j < m → P j → value j ≤ greatest_of test value m
  greatest_above = picked_beats greatest_picks 0 d value

  pub greatest_is : (m : ℕ) → 0 < greatest_of test value m → Of P value m (greatest_of test value m)
  greatest_is m h = picked_is greatest_picks 0 d value m (λ e. omega arith)

  pub least_below : (m j : ℕ) → j < m → P j → least_of test value m ≤ value j
  least_below = picked_beats least_picks beyond d value

  pub least_is : (m : ℕ) → least_of test value m < beyond → Of P value m (least_of test value m)
  least_is m h = picked_is least_picks beyond d value m (λ e. omega arith)
