-- Laws of runs: how one goes on and ends, that it stays in the text, and what its bytes are. Assumes nothing.
use Rattle.std.specs.Prelude.{◌≡◌, Bool, drop, leb}
use Rattle.std.proofs.Math.Path.{refl}
use Rattle.std.proofs.Math.Bool.{true, false, cond}
use mathlib.Core.List.{List, [], ◌∷◌}
use Prim.Native.Nat.{ℕ, zero, suc, ◌+◌, ◌≤◌, ◌<◌, ◌^◌}
use native.Mathlib.Omega.{arith}
use Rattle.std.proofs.Math.Nat.{pow-le-pow_right, pow-suc}
use Rattle.std.proofs.Math.ListN.{length, get_or-eq_default}
use Rattle.std.proofs.Common.{length-drop, get_or-drop, leb-true}
use Rattle.numbers.specs.Counting.{at}
use Rattle.numbers.specs.DecidesLaws.{and_true}
use Rattle.model.specs.Limits.{Range, Inside, inside, ◌–◌}
use Rattle.fields.specs.Fields.{allowed_in, run_of}
use Rattle.fields.specs.Numbers.{decimal_of}
use Rattle.fields.specs.declared.Alphabet.{Alphabet}
use Rattle.fields.specs.declared.Alphabet.TheVariants.{Digits, NameBytes}

-- a byte that is not 0 stands inside the text
pub inside_text : (text : List ℕ) (p b : ℕ) → at text p ≡ suc b → p < length text
inside_text [] p b e = absurd (omega (arith, get_or-eq_default {A = ℕ} [] 0 {n = p} (omega arith), e))
inside_text (x ∷ text) zero b e = omega arith
inside_text (x ∷ text) (suc p) b e = omega (arith, inside_text text p b e)

module _ (a : Alphabet) where
  pub run_length : (l : List ℕ) → run_of a l ≤ length l
  unfolding run_of
  run_length [] = omega arith
  run_length (b ∷ rest) = go (allowed_in a b) (run_length rest)
    where
      go : (t : Bool) → run_of a rest ≤ length rest → cond t (1 + run_of a rest) 0 ≤ suc (length rest)
      go true h = omega arith
      go false h = omega arith

  -- a run that is not empty ends inside the text
  pub run_inside : (text : List ℕ) (p : ℕ) → 0 < run_of a (drop p text) → p + run_of a (drop p text) ≤ length text
  run_inside text p h = omega (arith, run_length (drop p text), length-drop p text)

  -- every byte of a run is of the alphabet
  pub run_allowed : (l : List ℕ) (i : ℕ) → i < run_of a l → allowed_in a (at l i) ≡ true
  unfolding run_of
  run_allowed [] i h = absurd (omega arith)
  run_allowed (b ∷ rest) i h = go (run_allowed rest) (allowed_in a b) refl i h
    where
      go : ((i : ℕ) → i < run_of a rest → allowed_in a (at rest i) ≡ true) → (t : Bool) → allowed_in a b ≡ t → (i : ℕ)
          → i < cond t (1 + run_of a rest) 0 → allowed_in a (at (b ∷ rest) i) ≡ true
      go ih true e zero k = e
      go ih true e (suc i) k = ih i (omega arith)
      go ih false e i k = absurd (omega arith)

-- what holds of both choices holds of the chosen one
pub by_test : {A : Type 0} (P : A → Type 0) (b : Bool) {x y : A} → (b ≡ true → P x) → (b ≡ false → P y) → P (cond b x y)
by_test P true f g = f refl
by_test P false f g = g refl

pub inside_means : (r : Range) (x : ℕ) → inside r x ≡ true → Inside r x
inside_means r x e =
    let (low, high) = and_true (leb r.least x) (leb x r.most) e in
    (leb-true r.least x low, leb-true x r.most high)

module _ (text : List ℕ) (p : ℕ) where
  -- a byte of a run of digits is a digit
  pub digit_at : (n : ℕ) → n < run_of Digits (drop p text) → Inside (48 – 57) (at text (p + n))
  digit_at n h = inside_means (48 – 57) (at text (p + n)) (rw get_or-drop at (run_allowed Digits (drop p text) n h))

  -- a number of n digits is below 10 to the n
  pub decimal_below : (n : ℕ) → n ≤ run_of Digits (drop p text) → decimal_of text p n < 10 ^ n
  unfolding decimal_of
  decimal_below zero h = omega arith
  decimal_below (suc n) h =
      let d : Inside (48 – 57) (at text (p + n)) = digit_at n (omega arith) in
      omega (arith, decimal_below n (omega arith), pow-suc 10 n, d.0, d.1)

  -- so a digit more after at most five of them still fits
  pub decimal_fits : (n : ℕ) → n < 6 → n < run_of Digits (drop p text) → decimal_of text p n < 100000
  decimal_fits n l h = omega (arith, decimal_below n (omega arith), pow-le-pow_right {n = 10} (omega arith) {i = n} {j = 5} (omega arith))

-- what a few digits that stand in a text are
pub ruleset digit_laws = (run_inside, digit_at, decimal_fits)

-- a digit is of both alphabets
pub ten_digits : (a : Alphabet) (b : ℕ) → inside (48 – 57) b ≡ true → allowed_in a b ≡ true
ten_digits Digits b e = e
ten_digits NameBytes b e = rw e
