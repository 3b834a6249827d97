-- Laws of signed numbers: their order, the greatest of several, and differences of naturals. Assumes nothing.
use Rattle.std.specs.Prelude.{◌≡◌, refl, ◌⊎◌, cond, T, leb, ltb, ℤ, pos, negsuc, nat_abs, neg_ℤ, ◌-ℤ◌, ◌*ℤ◌, ◌≤ℤ◌, ◌<ℤ◌}
use Rattle.std.proofs.Math.Path.{sym}
use Rattle.std.proofs.Common.{ap, ◌∙◌, inl, inr, mul-le-mul_left, zero-mul, leb→le, le→leb, ltb→lt, lt→ltb, lt-ltb, le-ltb}
use Prim.Native.Nat.{ℕ, zero, suc, ◌+◌, ◌*◌, ◌-◌, ◌≤◌, ◌<◌}
use native.Mathlib.Omega.{arith}
use Rattle.std.proofs.Math.Nat.{mul-lt-mul_of_pos_left}
use Rattle.std.proofs.Math.Nat as N
use Rattle.std.proofs.Math.IntN.{sub_ℕ}
use Rattle.std.specs.Int.Signed.{lt_z, le_z, le_z_yes, lt_z_yes, ≤ℤ_refl, clash_ℤ}
use Rattle.numbers.specs.Counting.{larger, greatest, same}
use Rattle.numbers.specs.DecidesLaws.{Decides, decided, decides_lt, decides_ltℤ, decides_and, decides_iff, cond_yes, cond_no, extend}

-- ---- order

le_trans : (a b c : ℤ) → T (le_z a b) → T (le_z b c) → T (le_z a c)
le_trans (pos a) (pos b) (pos c) h k = le→leb a c (omega (arith, leb→le a b h, leb→le b c k))
le_trans (pos a) (pos b) (negsuc c) h k = k
le_trans (pos a) (negsuc b) c h k = absurd h
le_trans (negsuc a) b (pos c) h k = tt
le_trans (negsuc a) (pos b) (negsuc c) h k = absurd k
le_trans (negsuc a) (negsuc b) (negsuc c) h k = le→leb c a (omega (arith, leb→le b a h, leb→le c b k))

pub ≤ℤ_trans : {a b c : ℤ} → a ≤ℤ b → b ≤ℤ c → a ≤ℤ c
≤ℤ_trans {a} {b} {c} h k = le_z_yes (le_trans a b c h.le k.le)

lt_le : (a b : ℤ) → T (lt_z a b) → T (le_z a b)
lt_le (pos a) (pos b) h = le→leb a b (omega (arith, ltb→lt a b h))
lt_le (pos a) (negsuc b) h = absurd h
lt_le (negsuc a) (pos b) h = tt
lt_le (negsuc a) (negsuc b) h = le→leb b a (omega (arith, ltb→lt b a h))

pub <ℤ_weaken : {a b : ℤ} → a <ℤ b → a ≤ℤ b
<ℤ_weaken {a} {b} h = le_z_yes (lt_le a b h.lt)

not_lt : (a b : ℤ) → ¬ (T (lt_z a b)) → T (le_z b a)
not_lt (pos a) (pos b) h = le→leb b a (let k : ¬ (a < b) = λ l. h (lt→ltb a b l) in omega arith)
not_lt (pos a) (negsuc b) h = tt
not_lt (negsuc a) (pos b) h = absurd (h tt)
not_lt (negsuc a) (negsuc b) h = le→leb a b (let k : ¬ (b < a) = λ l. h (lt→ltb b a l) in omega arith)

pub ≮ℤ_≤ℤ : {a b : ℤ} → ¬ (a <ℤ b) → b ≤ℤ a
≮ℤ_≤ℤ {a} {b} h = le_z_yes (not_lt a b (λ t. h (lt_z_yes t)))

pub ≤ℤ_<ℤ_trans : {a b c : ℤ} → a ≤ℤ b → b <ℤ c → a <ℤ c
≤ℤ_<ℤ_trans {a} {b} {c} h k = go (decided (decides_ltℤ a c))
  where
    go : (a <ℤ c) ⊎ (¬ (a <ℤ c)) → a <ℤ c
    go (inl l) = l
    go (inr l) = clash_ℤ k (≤ℤ_trans (≮ℤ_≤ℤ l) h)

-- ---- the same number

decides_≤ℤ : (a b : ℤ) → Decides (a ≤ℤ b) (le_z a b)
decides_≤ℤ a b = record { sound = le_z_yes; complete = λ h. h.le }

le_antisym : (a b : ℤ) → T (le_z a b) → T (le_z b a) → a ≡ b
le_antisym (pos a) (pos b) h k = ap pos (omega (arith, leb→le a b h, leb→le b a k))
le_antisym (pos a) (negsuc b) h k = absurd h
le_antisym (negsuc a) (pos b) h k = absurd k
le_antisym (negsuc a) (negsuc b) h k = ap negsuc (omega (arith, leb→le b a h, leb→le a b k))

pub neither_above : {a b : ℤ} → a ≤ℤ b → b ≤ℤ a → a ≡ b
neither_above {a} {b} h k = le_antisym a b h.le k.le

pub decides_same : (a b : ℤ) → Decides (a ≡ b) (same a b)
decides_same a b =
    decides_iff (λ x. neither_above x.0 x.1) (λ e. (rw e (≤ℤ_refl b), rw e (≤ℤ_refl b))) (decides_and (decides_≤ℤ a b) (decides_≤ℤ b a))

-- ---- the greatest of several

larger_left : (a b : ℤ) → a ≤ℤ larger a b
larger_left a b = go (decided (decides_ltℤ a b))
  where
    go : (a <ℤ b) ⊎ (¬ (a <ℤ b)) → a ≤ℤ cond (lt_z a b) b a
    go (inl l) = rw (cond_yes (decides_ltℤ a b) l b a) (<ℤ_weaken l)
    go (inr l) = rw (cond_no (decides_ltℤ a b) l b a) (≤ℤ_refl a)

larger_right : (a b : ℤ) → b ≤ℤ larger a b
larger_right a b = go (decided (decides_ltℤ a b))
  where
    go : (a <ℤ b) ⊎ (¬ (a <ℤ b)) → b ≤ℤ cond (lt_z a b) b a
    go (inl l) = rw (cond_yes (decides_ltℤ a b) l b a) (≤ℤ_refl b)
    go (inr l) = rw (cond_no (decides_ltℤ a b) l b a) (≮ℤ_≤ℤ l)

module _ (f : ℕ → ℤ) where
  -- none of them is greater
  pub greatest_above : (m j : ℕ) → j < suc m → f j ≤ℤ greatest f m
  unfolding greatest
  greatest_above zero j l = let e : j ≡ 0 = omega arith in rw e (≤ℤ_refl (f 0))
  greatest_above (suc m) j l =
      extend {P = λ j. f j ≤ℤ larger (greatest f m) (f (suc m))} (suc m)
      (λ i k. ≤ℤ_trans (greatest_above m i k) (larger_left (greatest f m) (f (suc m))))
      (larger_right (greatest f m) (f (suc m))) j l

  -- one of them is it
  pub greatest_one : (m : ℕ) → (j : ℕ) × (j < suc m) × (f j ≡ greatest f m)
  unfolding greatest
  greatest_one zero = (0, omega arith, refl)
  greatest_one (suc m) = go (decided (decides_ltℤ (greatest f m) (f (suc m)))) (greatest_one m)
    where
      go : (greatest f m <ℤ f (suc m)) ⊎ (¬ (greatest f m <ℤ f (suc m))) → (j : ℕ) × (j < suc m) × (f j ≡ greatest f m)
          → (j : ℕ) × (j < suc (suc m)) × (f j ≡ larger (greatest f m) (f (suc m)))
      go (inl l) g = (suc m, omega arith, sym (cond_yes (decides_ltℤ (greatest f m) (f (suc m))) l (f (suc m)) (greatest f m)))
      go (inr l) g =
          (g.0, omega (arith, g.1), g.2 ∙ sym (cond_no (decides_ltℤ (greatest f m) (f (suc m))) l (f (suc m)) (greatest f m)))

-- ---- differences of naturals

pub sub_neg : (a b : ℕ) → a < b → sub_ℕ a b ≡ negsuc (b - suc a)
sub_neg a b h = rw (lt-ltb a b h)

pub sub_pos : (a b : ℕ) → b ≤ a → sub_ℕ a b ≡ pos (a - b)
sub_pos a b h = rw (le-ltb a b h)

-- a number is below every natural that its size is below
pub size_below : (z : ℤ) (top : ℕ) → nat_abs z < top → z <ℤ pos top
size_below (pos n) top h = lt_z_yes (lt→ltb n top h)
size_below (negsuc n) top h = lt_z_yes tt

-- a difference is no greater in size than its parts
pub sub_size : (a b top : ℕ) → a ≤ top → b ≤ top → nat_abs (sub_ℕ a b) ≤ top
sub_size a b top u v = go (decided (decides_lt a b))
  where
    go : (a < b) ⊎ (¬ (a < b)) → nat_abs (sub_ℕ a b) ≤ top
    go (inl l) = rw (sub_neg a b l) (omega arith)
    go (inr l) = rw (sub_pos a b (omega arith)) (omega arith)

-- differences stand as the sums that bring their parts to one side
module _ (a b c d : ℕ) where
  pub sub_less : a + d < c + b → sub_ℕ a b <ℤ sub_ℕ c d
  sub_less h = go (decided (decides_lt a b)) (decided (decides_lt c d))
    where
      go : (a < b) ⊎ (¬ (a < b)) → (c < d) ⊎ (¬ (c < d)) → sub_ℕ a b <ℤ sub_ℕ c d
      go (inl u) (inl v) = rw (sub_neg a b u, sub_neg c d v) (lt_z_yes (lt→ltb (d - suc c) (b - suc a) (omega arith)))
      go (inl u) (inr v) = rw (sub_neg a b u, sub_pos c d (omega arith)) (lt_z_yes tt)
      go (inr u) (inl v) = absurd (omega arith)
      go (inr u) (inr v) = rw (sub_pos a b (omega arith), sub_pos c d (omega arith)) (lt_z_yes (lt→ltb (a - b) (c - d) (omega arith)))

  pub sub_same : a + d ≡ c + b → sub_ℕ a b ≡ sub_ℕ c d
  sub_same e = go (decided (decides_lt a b))
    where
      go : (a < b) ⊎ (¬ (a < b)) → sub_ℕ a b ≡ sub_ℕ c d
      go (inl u) = let n : b - suc a ≡ d - suc c = omega arith in sub_neg a b u ∙ ap negsuc n ∙ sym (sub_neg c d (omega arith))
      go (inr u) = let n : a - b ≡ c - d = omega arith in sub_pos a b (omega arith) ∙ ap pos n ∙ sym (sub_pos c d (omega arith))

pub sub_le : (a b c d : ℕ) → a + d ≤ c + b → sub_ℕ a b ≤ℤ sub_ℕ c d
sub_le a b c d h = go (decided (decides_lt (a + d) (c + b)))
  where
    go : (a + d < c + b) ⊎ (¬ (a + d < c + b)) → sub_ℕ a b ≤ℤ sub_ℕ c d
    go (inl u) = <ℤ_weaken (sub_less a b c d u)
    go (inr u) = rw (sub_same a b c d (omega arith)) (≤ℤ_refl (sub_ℕ c d))

pub pos_sub : (f d : ℕ) → pos f -ℤ pos d ≡ sub_ℕ f d
pos_sub f zero = let e : f + 0 ≡ f - 0 = omega arith in ap pos e ∙ sym (sub_pos f 0 (omega arith))
pos_sub f (suc d) = refl

neg_pos : (n k : ℕ) → n ≡ suc k → neg_ℤ (pos n) ≡ negsuc k
neg_pos n k e = rw e

-- w × (a − b)
pub mul_sub : (w a b : ℕ) → pos w *ℤ sub_ℕ a b ≡ sub_ℕ (w * a) (w * b)
mul_sub w a b = go w (decided (decides_lt a b))
  where
    go : (w : ℕ) → (a < b) ⊎ (¬ (a < b)) → pos w *ℤ sub_ℕ a b ≡ sub_ℕ (w * a) (w * b)
    go zero (inl u) = rw (sub_neg a b u) (simp zero-mul)
    go (suc w) (inl u) =
        let less : suc w * a < suc w * b = mul-lt-mul_of_pos_left u (omega arith) in
        let one : suc (b - suc a) ≡ b - a = omega arith in
        let two : suc w * suc (b - suc a) ≡ suc w * b - suc w * a = rw one (N.mul-sub (suc w) b a) in
        rw (sub_neg a b u) (neg_pos (suc w * suc (b - suc a)) (suc w * b - suc (suc w * a)) (omega arith) ∙ sym (sub_neg (suc w * a) (suc w * b) less))
    go w (inr u) =
        let l : b ≤ a = omega arith in
        rw (sub_pos a b l) (ap pos (N.mul-sub w a b) ∙ sym (sub_pos (w * a) (w * b) (mul-le-mul_left w l)))
