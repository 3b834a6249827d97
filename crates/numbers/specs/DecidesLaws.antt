-- `Decides P b`: the computed test b passes exactly where P holds. Assumes nothing.
use Rattle.std.specs.Prelude.{◌≡◌, refl, ◌⊎◌, Bool, true, false, not, ◌&&◌, ◌||◌, cond, T, leb, ltb, eqb, ℤ, ◌<ℤ◌}
use Rattle.std.proofs.Common.{sym, subst, inl, inr, leb→le, le→leb, ltb→lt, lt→ltb, eqb→eq}
use Prim.Native.Nat.{ℕ, zero, suc, ◌≤◌, ◌<◌}
use native.Mathlib.Omega.{arith}
use Rattle.std.proofs.Math.Dec.{eqb_refl}
use Rattle.std.specs.Int.Signed.{lt_z, lt_z_yes}
use Rattle.numbers.specs.Counting.{every, each, some, any}

pub record Decides (P : Type 0) (b : Bool) : Type 0 where
  pub sound : T b → P
  pub complete : P → T b

pub decides_le : (m n : ℕ) → Decides (m ≤ n) (leb m n)
decides_le m n = record { sound = leb→le m n; complete = le→leb m n }

pub decides_lt : (m n : ℕ) → Decides (m < n) (ltb m n)
decides_lt m n = record { sound = ltb→lt m n; complete = lt→ltb m n }

pub decides_eq : (m n : ℕ) → Decides (m ≡ n) (eqb m n)
decides_eq m n = record { sound = eqb→eq m n; complete = λ e. subst (λ (x : ℕ). T (eqb m x)) e (eqb_refl m) }

pub decides_ltℤ : (a b : ℤ) → Decides (a <ℤ b) (lt_z a b)
decides_ltℤ a b = record { sound = lt_z_yes; complete = λ h. h.lt }

pub decides_and : {P Q : Type 0} {a b : Bool} → Decides P a → Decides Q b → Decides (P × Q) (a && b)
decides_and {a = true} {b} s t = record { sound = λ x. (s.sound tt, t.sound x); complete = λ x. t.complete x.1 }
decides_and {a = false} {b} s t = record { sound = λ x. absurd x; complete = λ x. s.complete x.0 }

pub decides_or : {P Q : Type 0} {a b : Bool} → Decides P a → Decides Q b → Decides (P ⊎ Q) (a || b)
decides_or {P} {Q} {a = true} {b} s t = record { sound = λ x. inl (s.sound tt); complete = λ x. tt }
decides_or {P} {Q} {a = false} {b} s t = record { sound = λ x. inr (t.sound x); complete = go }
  where
    go : P ⊎ Q → T b
    go (inl p) = absurd (s.complete p)
    go (inr q) = t.complete q

pub decides_not : {P : Type 0} {b : Bool} → Decides P b → Decides (¬ P) (not b)
decides_not {b = true} s = record { sound = λ x. absurd x; complete = λ f. f (s.sound tt) }
decides_not {b = false} s = record { sound = λ x p. s.complete p; complete = λ f. tt }

-- a test of what P says in other words
pub decides_iff : {P Q : Type 0} {b : Bool} → (P → Q) → (Q → P) → Decides P b → Decides Q b
decides_iff f g s = record { sound = λ x. f (s.sound x); complete = λ x. s.complete (g x) }

pub decided : {P : Type 0} {b : Bool} → Decides P b → P ⊎ (¬ P)
decided {b = true} s = inl (s.sound tt)
decided {b = false} s = inr (λ x. s.complete x)

pub test_true : {P : Type 0} {b : Bool} → Decides P b → P → b ≡ true
test_true {b = true} s p = refl
test_true {b = false} s p = absurd (s.complete p)

pub test_means : {P : Type 0} {b : Bool} → Decides P b → b ≡ true → P
test_means {b = true} s e = s.sound tt
test_means {b = false} s e = absurd (let z : ◌≡◌ {A = ℕ} 0 1 = cc in omega arith)

pub test_fails : {P : Type 0} {b : Bool} → Decides P b → b ≡ false → ¬ P
test_fails d e p = rw e at (d.complete p)

pub test_false : {P : Type 0} {b : Bool} → Decides P b → ¬ P → b ≡ false
test_false {b = true} s p = absurd (p (s.sound tt))
test_false {b = false} s p = refl

-- a test has one outcome
pub one_outcome : {A : Type 0} {b : Bool} → b ≡ true → b ≡ false → A
one_outcome e f = absurd (let z : ◌≡◌ {A = ℕ} 0 1 = cc in omega arith)

-- the outcome of a test, from that of its opposite
pub not_yet : (b : Bool) → not b ≡ true → b ≡ false
not_yet true e = sym e
not_yet false e = refl

pub by_now : (b : Bool) → not b ≡ false → b ≡ true
by_now true e = refl
by_now false e = sym e

-- both of two tests that are passed at once
pub and_true : (a b : Bool) → a && b ≡ true → (a ≡ true) × (b ≡ true)
and_true true b e = (refl, e)
and_true false b e = let z : ◌≡◌ {A = ℕ} 0 1 = cc in absurd (omega arith)

-- two tests of one proposition
pub same_test : {P : Type 0} (a b : Bool) → Decides P a → Decides P b → a ≡ b
same_test true b d e = sym (test_true e (d.sound tt))
same_test false b d e = sym (test_false e (λ p. d.complete p))

-- ---- a choice by a test

pub cond_yes : {A P : Type 0} {b : Bool} → Decides P b → P → (x y : A) → cond b x y ≡ x
cond_yes {b = true} s p x y = refl
cond_yes {b = false} s p x y = absurd (s.complete p)

pub cond_no : {A P : Type 0} {b : Bool} → Decides P b → ¬ P → (x y : A) → cond b x y ≡ y
cond_no {b = true} s p x y = absurd (p (s.sound tt))
cond_no {b = false} s p x y = refl

-- ---- every place, each number

-- what holds below n and at n holds below suc n
pub extend : {P : ℕ → Type 0} (n : ℕ) → ((j : ℕ) → j < n → P j) → P n → (j : ℕ) → j < suc n → P j
extend {P} n f z j l = go (decided (decides_eq n j))
  where
    go : (n ≡ j) ⊎ (¬ (n ≡ j)) → P j
    go (inl e) = subst P e z
    go (inr e) = f j (omega arith)

module _ {P : ℕ → Type 0} {p : ℕ → Bool} (d : (j : ℕ) → Decides (P j) (p j)) where
  pub decides_every : (n : ℕ) → Decides ((j : ℕ) → j < n → P j) (every p n)
  unfolding every
  decides_every zero = record { sound = λ x j l. absurd (omega arith); complete = λ x. tt }
  decides_every (suc n) =
      decides_iff (λ x. extend n x.1 x.0) (λ f. (f n (omega arith), λ j l. f j (omega arith))) (decides_and (d n) (decides_every n))

-- what holds of suc 0, .., suc (q − 1) holds of 1, .., q
pub numbered : (P : ℕ → Type 0) (q : ℕ) → ((m : ℕ) → m < q → P (suc m)) → (i : ℕ) → 1 ≤ i → i ≤ q → P i
numbered P q f zero l k = absurd (omega arith)
numbered P q f (suc m) l k = f m (omega arith)

pub decides_each : {P : ℕ → Type 0} {p : ℕ → Bool} → ((i : ℕ) → Decides (P i) (p i)) → (q : ℕ) → Decides ((i : ℕ) → 1 ≤ i → i ≤ q → P i) (each p q)
decides_each {P} d q = decides_iff (λ f. numbered P q f) (λ f m l. f (suc m) (omega arith) (omega arith)) (decides_every (λ m. d (suc m)) q)

-- ---- some place, any number

module _ {P : ℕ → Type 0} {p : ℕ → Bool} (d : (j : ℕ) → Decides (P j) (p j)) where
  pub decides_some : (n : ℕ) → Decides ((j : ℕ) × (j < n) × P j) (some p n)
  unfolding some
  decides_some zero = record { sound = λ x. absurd x; complete = λ x. absurd (let l : x.0 < 0 = x.1 in omega arith) }
  decides_some (suc n) = decides_iff into back (decides_or (d n) (decides_some n))
    where
      into : P n ⊎ ((j : ℕ) × (j < n) × P j) → (j : ℕ) × (j < suc n) × P j
      into (inl h) = (n, omega arith, h)
      into (inr h) = let l : h.0 < n = h.1 in (h.0, omega arith, h.2)

      at_last : (j : ℕ) → j < suc n → P j → (n ≡ j) ⊎ (¬ (n ≡ j)) → P n ⊎ ((j : ℕ) × (j < n) × P j)
      at_last j l h (inl e) = inl (subst P (sym e) h)
      at_last j l h (inr e) = inr (j, omega arith, h)

      back : (j : ℕ) × (j < suc n) × P j → P n ⊎ ((j : ℕ) × (j < n) × P j)
      back x = at_last x.0 x.1 x.2 (decided (decides_eq n x.0))

pub decides_any : {P : ℕ → Type 0} {p : ℕ → Bool} → ((i : ℕ) → Decides (P i) (p i)) → (q : ℕ) → Decides ((i : ℕ) × ((1 ≤ i) × (i ≤ q)) × P i) (any p q)
decides_any {P} d q = decides_iff into back (decides_some (λ m. d (suc m)) q)
  where
    into : (m : ℕ) × (m < q) × P (suc m) → (i : ℕ) × ((1 ≤ i) × (i ≤ q)) × P i
    into x = let l : x.0 < q = x.1 in (suc x.0, (omega arith, omega arith), x.2)

    back : (i : ℕ) × ((1 ≤ i) × (i ≤ q)) × P i → (m : ℕ) × (m < q) × P (suc m)
    back (zero, l, h) = absurd (omega (arith, l.0))
    back (suc m, l, h) = (m, omega (arith, l.1), h)
