-- Laws of the counting words. Assumes nothing.
use Rattle.std.specs.Prelude.{◌≡◌, ◌⊎◌, Bool, true, false, ◌&&◌, ◌||◌, eqb, length}
use Rattle.std.proofs.Math.Path.{refl}
use Rattle.std.proofs.Common.{sym, ◌∙◌, subst, ap, inl, inr, add-one}
use mathlib.Core.List.{[], ◌∷◌, ◌++◌}
use Prim.Native.Nat.{ℕ, zero, suc, ◌+◌, ◌≤◌, ◌<◌}
use native.Mathlib.Omega.{arith}
use Rattle.std.proofs.Math.ListN.{get_or, length-append, get_or-append}
use Rattle.std.proofs.lemmas.List.{get_or_at}
use Rattle.numbers.specs.Counting.{one_if, count, every, some, table}
use Rattle.numbers.specs.DecidesLaws.{Decides, decides_eq, decided, extend}

-- ---- one test

pub bit_yes : {P : Type 0} {a : Bool} → Decides P a → P → one_if a ≡ 1
bit_yes {a = true} s x = refl
bit_yes {a = false} s x = absurd (s.complete x)

pub bit_no : {P : Type 0} {a : Bool} → Decides P a → ¬ P → one_if a ≡ 0
bit_no {a = true} s x = absurd (x (s.sound tt))
bit_no {a = false} s x = refl

bit_le : (a : Bool) → one_if a ≤ 1
bit_le true = omega arith
bit_le false = omega arith

bit_mono : {P Q : Type 0} {a b : Bool} → Decides P a → Decides Q b → (P → Q) → one_if a ≤ one_if b
bit_mono {a = true} s t h = omega (arith, bit_yes t (h (s.sound tt)))
bit_mono {a = false} s t h = omega arith

bit_disj : {P Q R : Type 0} {a b c : Bool} → Decides P a → Decides Q b → Decides R c → (P → R) → (Q → R) → (P → Q → ⊥) → one_if a + one_if b ≤ one_if c
bit_disj {a = true} {b} s t u f g h = omega (arith, bit_yes u (f (s.sound tt)), bit_no t (h (s.sound tt)))
bit_disj {a = false} {b} s t u f g h = omega (arith, bit_mono t u g)

bit_union : {P Q R : Type 0} {a b c : Bool} → Decides P a → Decides Q b → Decides R c → (R → P ⊎ Q) → one_if c ≤ one_if a + one_if b
bit_union {P} {Q} {a} {b} {c = true} s t u h = go (h (u.sound tt))
  where
    go : P ⊎ Q → 1 ≤ one_if a + one_if b
    go (inl x) = omega (arith, bit_yes s x)
    go (inr x) = omega (arith, bit_yes t x)
bit_union {a} {b} {c = false} s t u h = omega arith

-- ---- counts

-- a count from its start, one place more at a time
pub count_start : (p : ℕ → Bool) → 0 ≡ count p 0
unfolding count
count_start p = refl

count_more : (p : ℕ → Bool) (j : ℕ) → one_if (p j) + count p j ≡ count p (j + 1)
unfolding count
count_more p j = rw add-one

pub count_yes : (p : ℕ → Bool) (j : ℕ) → p j ≡ true → count p j + 1 ≡ count p (j + 1)
count_yes p j e = omega (arith, ap one_if e, count_more p j)

pub count_no : (p : ℕ → Bool) (j : ℕ) → p j ≡ false → count p j ≡ count p (j + 1)
count_no p j e = omega (arith, ap one_if e, count_more p j)

pub count_le : (p : ℕ → Bool) (n : ℕ) → count p n ≤ n
unfolding count
count_le p zero = omega arith
count_le p (suc n) = omega (arith, bit_le (p n), count_le p n)

module _ {P Q : ℕ → Type 0} {p q : ℕ → Bool} (s : (y : ℕ) → Decides (P y) (p y)) (t : (y : ℕ) → Decides (Q y) (q y)) where
  pub count_mono : (n : ℕ) → ((y : ℕ) → y < n → P y → Q y) → count p n ≤ count q n
  unfolding count
  count_mono zero h = omega arith
  count_mono (suc n) h = omega (arith, bit_mono (s n) (t n) (h n (omega arith)), count_mono n (λ y l x. h y (omega arith) x))

  -- one more: strictly larger
  pub count_lt : (n x : ℕ) → x < n → Q x → ¬ P x → ((y : ℕ) → y < n → P y → Q y) → count p n < count q n
  unfolding count
  count_lt zero x l a b h = omega arith
  count_lt (suc n) x l a b h = go (decided (decides_eq x n))
      (λ e. count_lt n x (omega arith) a b (λ y k z. h y (omega arith) z))
    where
      go : (x ≡ n) ⊎ (¬ (x ≡ n)) → (¬ (x ≡ n) → count p n < count q n) → one_if (p n) + count p n < one_if (q n) + count q n
      go (inl e) r =
          omega (
            arith,
            bit_yes (t n) (subst Q e a),
            bit_no (s n) (λ z. b (subst P (sym e) z)),
            count_mono n (λ y k z. h y (omega arith) z),
          )
      go (inr e) r = omega (arith, r e, bit_mono (s n) (t n) (h n (omega arith)))

pub count_cong : {P Q : ℕ → Type 0} {p q : ℕ → Bool} → ((y : ℕ) → Decides (P y) (p y)) → ((y : ℕ) → Decides (Q y) (q y)) → (n : ℕ)
    → ((y : ℕ) → y < n → P y → Q y) → ((y : ℕ) → y < n → Q y → P y) → count p n ≡ count q n
count_cong s t n f g = omega (arith, count_mono s t n f, count_mono t s n g)

module _ {P Q R : ℕ → Type 0} {p q r : ℕ → Bool}
    (s : (y : ℕ) → Decides (P y) (p y)) (t : (y : ℕ) → Decides (Q y) (q y)) (u : (y : ℕ) → Decides (R y) (r y)) where
  -- two kinds that do not meet, inside a third
  pub count_disj : (n : ℕ) → ((y : ℕ) → y < n → P y → R y) → ((y : ℕ) → y < n → Q y → R y) → ((y : ℕ) → y < n → P y → Q y → ⊥)
      → count p n + count q n ≤ count r n
  unfolding count
  count_disj zero f g h = omega arith
  count_disj (suc n) f g h =
      omega (
        arith,
        bit_disj (s n) (t n) (u n) (f n (omega arith)) (g n (omega arith)) (h n (omega arith)),
        count_disj n (λ y k z. f y (omega arith) z) (λ y k z. g y (omega arith) z) (λ y k z w. h y (omega arith) z w),
      )

  -- two kinds that cover a third
  pub count_union : (n : ℕ) → ((y : ℕ) → y < n → R y → P y ⊎ Q y) → count r n ≤ count p n + count q n
  unfolding count
  count_union zero h = omega arith
  count_union (suc n) h =
      omega (arith, bit_union (s n) (t n) (u n) (h n (omega arith)), count_union n (λ y k z. h y (omega arith) z))

module _ {P : ℕ → Type 0} {p : ℕ → Bool} (s : (y : ℕ) → Decides (P y) (p y)) where
  pub count_none : (n : ℕ) → ((y : ℕ) → y < n → ¬ P y) → count p n ≡ 0
  unfolding count
  count_none zero h = refl
  count_none (suc n) h = omega (arith, bit_no (s n) (h n (omega arith)), count_none n (λ y k. h y (omega arith)))

  pub count_all : (n : ℕ) → ((y : ℕ) → y < n → P y) → count p n ≡ n
  unfolding count
  count_all zero h = refl
  count_all (suc n) h = omega (arith, bit_yes (s n) (h n (omega arith)), count_all n (λ y k. h y (omega arith)))

  -- search below n
  pub find : (n : ℕ) → ((y : ℕ) × (y < n) × P y) ⊎ ((y : ℕ) → y < n → ¬ P y)
  find zero = inr (λ y k z. omega arith)
  find (suc n) = go (find n) (decided (s n))
    where
      go : ((y : ℕ) × (y < n) × P y) ⊎ ((y : ℕ) → y < n → ¬ P y) → P n ⊎ (¬ P n)
          → ((y : ℕ) × (y < suc n) × P y) ⊎ ((y : ℕ) → y < suc n → ¬ P y)
      go (inl (y, k, z)) d = inl (y, omega arith, z)
      go (inr f) (inl z) = inl (n, omega arith, z)
      go (inr f) (inr z) = inr (λ y k w. last y k w (decided (decides_eq y n)))
        where
          last : (y : ℕ) → y < suc n → P y → (y ≡ n) ⊎ (¬ (y ≡ n)) → ⊥
          last y k w (inl e) = z (subst P e w)
          last y k w (inr e) = f y (omega arith) w

-- exactly one number below n is j
pub count_point : (n j : ℕ) → j < n → count (λ y. eqb y j) n ≡ 1
unfolding count
count_point zero j l = omega arith
count_point (suc n) j l = go (decided (decides_eq j n)) (λ k. count_point n j k)
  where
    go : (j ≡ n) ⊎ (¬ (j ≡ n)) → (j < n → count (λ y. eqb y j) n ≡ 1) → one_if (eqb n j) + count (λ y. eqb y j) n ≡ 1
    go (inl e) ih = omega (arith, bit_yes (decides_eq n j) (sym e), count_none (λ y. decides_eq y j) n (λ y k z. omega arith))
    go (inr e) ih = omega (arith, bit_no (decides_eq n j) (λ z. e (sym z)), ih (omega arith))

-- ---- a test of every place

-- from its start, one place more at a time
pub every_start : (p : ℕ → Bool) → true ≡ every p 0
unfolding every
every_start p = refl

pub every_more : (p : ℕ → Bool) (n : ℕ) → every p (n + 1) ≡ (p n && every p n)
unfolding every
every_more p n = rw add-one

pub every_fails : (p : ℕ → Bool) (n j : ℕ) → j < n → p j ≡ false → every p n ≡ false
unfolding every
every_fails p zero j l e = absurd (omega arith)
every_fails p (suc n) j l e = go (decided (decides_eq j n)) (λ k. every_fails p n j k e)
  where
    no_and : (b : Bool) → (b && false) ≡ false
    no_and true = refl
    no_and false = refl

    go : (j ≡ n) ⊎ (¬ (j ≡ n)) → (j < n → every p n ≡ false) → (p n && every p n) ≡ false
    go (inl s) ih = rw (rw s at e)
    go (inr s) ih = rw (ih (omega arith)) (no_and (p n))

-- two tests that agree
pub every_same_below : (p q : ℕ → Bool) (n : ℕ) → ((j : ℕ) → j < n → p j ≡ q j) → every p n ≡ every q n
unfolding every
every_same_below p q zero h = refl
every_same_below p q (suc n) h = rw (h n (omega arith), every_same_below p q n (λ j l. h j (omega arith)))

pub every_same : (p q : ℕ → Bool) → ((j : ℕ) → p j ≡ q j) → (n : ℕ) → every p n ≡ every q n
every_same p q h n = every_same_below p q n (λ j l. h j)

-- two tests at once
pub every_and : (p q : ℕ → Bool) (n : ℕ) → every (λ j. p j && q j) n ≡ (every p n && every q n)
unfolding every
every_and p q zero = refl
every_and p q (suc n) = rw (every_and p q n) (swap (p n) (q n) (every p n) (every q n))
  where
    swap : (a b c d : Bool) → (a && b && (c && d)) ≡ (a && c && (b && d))
    swap true true c d = refl
    swap true false true d = refl
    swap true false false d = refl
    swap false b c d = refl

-- ---- a test of some place

-- from its start, one place more at a time
pub some_start : (p : ℕ → Bool) → false ≡ some p 0
unfolding some
some_start p = refl

pub some_more : (p : ℕ → Bool) (n : ℕ) → some p (n + 1) ≡ (p n || some p n)
unfolding some
some_more p n = rw add-one

-- two tests that agree
pub some_same_below : (p q : ℕ → Bool) (n : ℕ) → ((j : ℕ) → j < n → p j ≡ q j) → some p n ≡ some q n
unfolding some
some_same_below p q zero h = refl
some_same_below p q (suc n) h = rw (h n (omega arith), some_same_below p q n (λ j l. h j (omega arith)))

-- ---- tables

module _ {A : Type 0} (f : ℕ → A) where
  pub table_length : (n : ℕ) → length (table f n) ≡ n
  unfolding table
  table_length zero = refl
  table_length (suc n) = omega (arith, length-append (table f n) (f n ∷ []), table_length n)

  pub table_at : (d : A) (n j : ℕ) → j < n → get_or (table f n) j d ≡ f j
  unfolding table
  table_at d zero j l = absurd (omega arith)
  table_at d (suc n) j l =
      extend {P = λ j. get_or (table f n ++ (f n ∷ [])) j d ≡ f j} n
      (λ i k. get_or-append (table f n) (f n ∷ []) d i (omega (arith, table_length n)) ∙ table_at d n i k)
      (get_or_at (table f n) (f n) [] d n (table_length n)) j l
