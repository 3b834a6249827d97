-- Laws of decimal digits: a number below 10 is its digit; a larger one is the number without its last digit, and that digit.
use Rattle.std.specs.Prelude.{Bool, true, false, cond, ◌≡◌, refl, List, [], ◌∷◌, ◌++◌, ℕ, zero, suc, ◌/◌, ◌%◌, ◌≤◌, ◌<◌, ltb, ℤ, pos, negsuc, nat_abs}
use Rattle.std.proofs.Common.{ap, arith, ltb-true, ltb-false, lt-ltb, le-ltb}
use Rattle.std.specs.Int.Signed.{lt_z}
use Rattle.writing.specs.Decimal.{digit, digits, decimal, signed}

-- any bound that is large enough gives the same digits
enough : (f g n : ℕ) → n ≤ f → n ≤ g → digits f n ≡ digits g n
unfolding digits
enough zero zero n p q = refl
enough zero (suc g) zero p q = refl
enough zero (suc g) (suc n) p q = absurd (omega arith)
enough (suc f) zero zero p q = refl
enough (suc f) zero (suc n) p q = absurd (omega arith)
enough (suc f) (suc g) n p q = go (ltb n 10) refl (λ h. enough f g (n / 10) (omega arith) (omega arith))
  where
    go : (t : Bool) → ltb n 10 ≡ t → (10 ≤ n → digits f (n / 10) ≡ digits g (n / 10)) →
        cond t (digit n ∷ []) (digits f (n / 10) ++ (digit (n % 10) ∷ []))
        ≡ cond t (digit n ∷ []) (digits g (n / 10) ++ (digit (n % 10) ∷ []))
    go true e same = refl
    go false e same = ap (λ (l : List ℕ). l ++ (digit (n % 10) ∷ [])) (same (ltb-false n 10 e))

pub decimal_one : (n : ℕ) → n < 10 → decimal n ≡ digit (n % 10) ∷ []
unfolding digits decimal
decimal_one zero h = refl
decimal_one (suc n) h =
    let e : suc n % 10 ≡ suc n = omega arith in
    rw (lt-ltb (suc n) 10 h, e)

pub decimal_more : (n : ℕ) → 10 ≤ n → decimal n ≡ decimal (n / 10) ++ (digit (n % 10) ∷ [])
unfolding digits decimal
decimal_more zero h = absurd (omega arith)
decimal_more (suc n) h =
    rw (le-ltb (suc n) 10 h)
    (ap (λ (l : List ℕ). l ++ (digit (suc n % 10) ∷ [])) (enough n (suc n / 10) (suc n / 10) (omega arith) (omega arith)))

-- ---- signs

pub signed_negative : (z : ℤ) → lt_z z (pos 0) ≡ true → signed z ≡ (45 ∷ []) ++ decimal (nat_abs z)
unfolding signed
signed_negative (pos n) h = absurd (omega (arith, ltb-true n 0 h))
signed_negative (negsuc n) h = refl

pub signed_other : (z : ℤ) → lt_z z (pos 0) ≡ false → signed z ≡ decimal (nat_abs z)
unfolding signed
signed_other (pos n) h = refl
signed_other (negsuc n) h = let z : ◌≡◌ {A = ℕ} 0 1 = cc in absurd (omega arith)
