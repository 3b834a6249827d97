-- Laws by which code is shown to compute the worst lateness and steps 4 and 5, a branch or a turn at a time. Assumes nothing.
use Rattle.std.specs.Prelude.{◌≡◌, ◌⊎◌, Bool, true, false, ◌||◌, List, leb, ltb, ℤ, pos, negsuc, nat_abs, length, set, take}
use Rattle.std.proofs.Math.Path.{refl, sym}
use Rattle.std.proofs.Common.{ap, ◌∙◌, inl, inr, add-one, mul-le-mul, take-suc, get_or-set_same, get_or-set_other, lt-ltb}
use Prim.Native.Nat.{ℕ, zero, suc, ◌+◌, ◌-◌, ◌≤◌, ◌<◌}
use native.Mathlib.Omega.{arith}
use Rattle.std.proofs.Math.Seq.{get_or-take}
use Rattle.std.specs.Int.Signed.{lt_z, mag}
use mir.Val.{bool_byte}
use Rattle.numbers.specs.Counting.{at, nth, count, one_if, larger, greatest, table}
use Rattle.numbers.specs.CountingLaws.{count_cong, count_le}
use Rattle.numbers.specs.DecidesLaws.{decided, decides_eq, decides_le, decides_lt, test_false}
use Rattle.model.specs.Sheet.{places}
use Rattle.model.specs.Lateness.{lateness, greatest_lateness}
use Rattle.model.proofs.LatenessLaws.{lateness_size}
use Rattle.rounds.specs.Lowering.{latest_below, lower, crowded_at, crowded}
use Rattle.lowering.specs.SoFar.{LoweredTo, crowded_below}

-- ---- signed numbers

-- a number that is small in size is in the range of its width
pub small_fits : (z : ℤ) (top h : ℕ) → nat_abs z ≤ top → top < h → mag z < h
small_fits (pos n) top h k l = omega arith
small_fits (negsuc n) top h k l = omega arith

-- a lateness in the table's ranges
pub lateness_small : (w f d : ℕ) → w ≤ 1000 → f ≤ 160000 → d ≤ 100000 → nat_abs (lateness w f d) ≤ 160000000
lateness_small w f d h k l = lateness_size w f d 160000000 (mul-le-mul h k) (omega (arith, mul-le-mul h l))

-- ---- the worst lateness

greatest_same : (f g : ℕ → ℤ) (m : ℕ) → ((j : ℕ) → j ≤ m → f j ≡ g j) → greatest f m ≡ greatest g m
unfolding greatest
greatest_same f g zero h = h 0 (omega arith)
greatest_same f g (suc m) h = rw (greatest_same f g m (λ j l. h j (omega arith)), h (suc m) (omega arith))

-- only the arrivals of the q trains count
pub worst_taken : (weight due : ℕ → ℕ) (train arrival : List ℕ) (q n : ℕ) → 1 ≤ n → ((j : ℕ) → j < n → (1 ≤ at train j) × (at train j ≤ q))
    → greatest_lateness n weight due train (nth arrival) ≡ greatest_lateness n weight due train (nth (take q arrival))
unfolding greatest_lateness
worst_taken weight due train arrival q n some on =
    greatest_same _ _ (n - 1)
    (λ j l. let t = on j (omega arith) in
    ap (λ (f : ℕ). lateness (weight j) f (due j)) (sym (get_or-take q arrival (at train j - 1) 0 (omega (arith, t.0, t.1)))))

module _ (weight due : ℕ → ℕ) (train : List ℕ) (F : ℕ → ℕ) where
  -- the greatest lateness of the first j orders; of none, a number below every lateness
  unfoldable pub WorstOf : (j : ℕ) (w : ℤ) → Type 0
  WorstOf zero w = w ≡ negsuc 999999999
  WorstOf (suc j) w = w ≡ greatest_lateness (suc j) weight due train F

  pub worst_none : WorstOf 0 (negsuc 999999999)
  unfolding WorstOf
  worst_none = refl

  larger_than_none : (z : ℤ) → nat_abs z ≤ 160000000 → larger (negsuc 999999999) z ≡ z
  larger_than_none (pos n) h = refl
  larger_than_none (negsuc n) h = let l : n < 999999999 = omega arith in rw (lt-ltb n 999999999 l)

  pub worst_more : (j : ℕ) (w z : ℤ) → WorstOf j w → z ≡ lateness (weight j) (F (at train j)) (due j) → nat_abs z ≤ 160000000
      → WorstOf (j + 1) (larger w z)
  unfolding WorstOf greatest_lateness greatest
  worst_more zero w z e f h = rw e (larger_than_none z h ∙ f)
  worst_more (suc j) w z e f h =
      let u : suc j - 1 ≡ j = omega arith in let v : suc (suc j) - 1 ≡ suc j = omega arith in rw (add-one (suc j)) (rw (e, f, u, v))

  pub worst_all : (n j : ℕ) (w : ℤ) → 1 ≤ n → j ≡ n → WorstOf j w → w ≡ greatest_lateness n weight due train F
  unfolding WorstOf
  worst_all zero j w l e h = absurd (omega arith)
  worst_all (suc n) j w l e h = rw e at h

-- ---- one order's latest train

module _ (w d : ℕ) (F : ℕ → ℕ) (y : ℤ) where
  pub latest_found : (i : ℕ) → 0 < i → lt_z (lateness w (F i) d) y ≡ true → i ≡ latest_below w d F y i
  unfolding latest_below
  latest_found zero l e = absurd (omega arith)
  latest_found (suc i) l e = rw e

  pub latest_passed : (i : ℕ) → 0 < i → lt_z (lateness w (F i) d) y ≡ false → latest_below w d F y (i - 1) ≡ latest_below w d F y i
  unfolding latest_below
  latest_passed zero l e = absurd (omega arith)
  latest_passed (suc i) l e = let u : suc i - 1 ≡ i = omega arith in rw (e, u)

  pub latest_none : (i : ℕ) → i ≡ 0 → 0 ≡ latest_below w d F y i
  unfolding latest_below
  latest_none i e = rw e

-- only the arrivals of the q trains count
latest_taken : (w d : ℕ) (arrival : List ℕ) (y : ℤ) (q i : ℕ) → i ≤ q → latest_below w d (nth arrival) y i ≡ latest_below w d (nth (take q arrival)) y i
unfolding latest_below
latest_taken w d arrival y q zero l = refl
latest_taken w d arrival y q (suc i) l =
    rw (get_or-take q arrival (suc i - 1) 0 (omega arith), latest_taken w d arrival y q i (omega arith))

-- ---- all latest trains

pub lower_taken : (weight due : ℕ → ℕ) (arrival : List ℕ) (y : ℤ) (latest : List ℕ) (q n : ℕ) → ((j : ℕ) → j < n → at latest j ≤ q)
    → lower n weight due (nth arrival) y latest ≡ lower n weight due (nth (take q arrival)) y latest
unfolding lower table
lower_taken weight due arrival y latest q zero h = refl
lower_taken weight due arrival y latest q (suc n) h =
    rw (lower_taken weight due arrival y latest q n (λ j l. h j (omega arith)), latest_taken (weight n) (due n) arrival y q (at latest n) (h n (omega arith)))

module _ (weight due F : ℕ → ℕ) (y : ℤ) (latest : List ℕ) where
  abbrev To : (n : ℕ) (now : List ℕ) → Type 0
  To = LoweredTo weight due F y latest

  pub lowered_none : To 0 latest
  lowered_none = record { done = λ k l. absurd (omega arith); kept = λ k l. refl }

  -- the store of one more, behind those
  pub lowered_more : (n : ℕ) (now : List ℕ) (v : ℕ) → n < length now → v ≡ latest_below (weight n) (due n) F y (at now n) → To n now
      → To (n + 1) (set now n v)
  lowered_more n now v few e s =
      record {
        done = λ k l. go k l (decided (decides_eq k n));
        kept = λ k l. get_or-set_other now n k v 0 (λ u. omega arith) ∙ s.kept k (omega arith);
      }
    where
      go : (k : ℕ) → k < n + 1 → (k ≡ n) ⊎ (¬ (k ≡ n)) → at (set now n v) k ≡ latest_below (weight k) (due k) F y (at latest k)
      go k l (inl u) = rw (u, get_or-set_same now n v 0 few, e, s.kept n (omega arith))
      go k l (inr u) = get_or-set_other now n k v 0 u ∙ s.done k (omega arith)

  pub lowered_all : (all : ℕ) (now : List ℕ) → all ≤ length now → To all now → take all now ≡ lower all weight due F y (take all latest)
  unfolding lower table
  lowered_all all now m s = go all (omega arith)
    where
      go : (n : ℕ) → n ≤ all → take n now ≡ lower n weight due F y (take all latest)
      go zero l = refl
      go (suc n) l =
          rw (take-suc now n 0 (omega arith), go n (omega arith), s.done n (omega arith), get_or-take all latest n 0 (omega arith))

-- ---- crowding

byte_bit : (b : Bool) → bool_byte b ≡ one_if b
byte_bit true = refl
byte_bit false = refl

-- a count of tests, each as a byte
pub count_byte : (p : ℕ → Bool) (j : ℕ) → count p j + bool_byte (p j) ≡ count p (j + 1)
unfolding count
count_byte p j = rw add-one (omega (arith, byte_bit (p j)))

or_false : (b : Bool) → (b || false) ≡ b
or_false true = refl
or_false false = refl

module _ (n : ℕ) (capacity : ℕ → ℕ) (latest : List ℕ) where
  -- the code's sum of places stands for the definition's, and only the first n orders count
  pub crowded_test : (i k : ℕ) → k ≡ places capacity i → ltb k (count (λ j. leb (at latest j) i) n) ≡ crowded_at n capacity (take n latest) i
  crowded_test i k e = rw (e, counted)
    where
      counted : count (λ j. leb (at latest j) i) n ≡ count (λ j. leb (at (take n latest) j) i) n
      counted =
          count_cong (λ j. decides_le (at latest j) i) (λ j. decides_le (at (take n latest) j) i) n
          (λ j l h. omega (arith, get_or-take n latest j 0 l)) (λ j l h. omega (arith, get_or-take n latest j 0 l))

  abbrev below : ℕ → Bool
  below = crowded_below n capacity latest

  pub crowded_none : false ≡ below 0
  unfolding crowded_below
  crowded_none = refl

  pub crowded_more : (i : ℕ) → (crowded_at n capacity latest i || below i) ≡ below (i + 1)
  unfolding crowded_below crowded
  crowded_more zero = or_false (crowded_at n capacity latest 0)
  crowded_more (suc i) = rw (add-one (suc i))

  crowded_last : (q : ℕ) → crowded_at n capacity latest q ≡ false → below q ≡ crowded n capacity latest q
  unfolding crowded_below crowded
  crowded_last zero e = sym e
  crowded_last (suc i) e = rw e

  -- at q there is room for all
  pub crowded_all : (i q : ℕ) → i ≡ q → n ≤ places capacity q → below i ≡ crowded n capacity latest q
  crowded_all i q e room =
      let most = count_le (λ j. leb (at latest j) q) n in
      let fits = test_false (decides_lt (places capacity q) (count (λ j. leb (at latest j) q) n)) (λ l. omega (arith, l, room, most)) in
      rw e (crowded_last q fits)
