-- Laws of a negative number's size: −(z + 1) + 1.
use Rattle.std.specs.Prelude.{true, false, ◌≡◌, refl, ℕ, zero, suc, ◌+◌, ◌-◌, ◌<◌, ◌^◌, ℤ, pos, negsuc, nat_abs, neg_ℤ, ◌+ℤ◌, ◌-ℤ◌, T}
use Rattle.std.proofs.Common.{ap, arith, ltb-true, lt-ltb, SFits}
use Rattle.std.specs.Int.Signed.{lt_z, non_neg}
use Rattle.std.specs.Int.{w64}

-- −(n + 1) + 1 is −n
raised : (n : ℕ) → negsuc n +ℤ pos 1 ≡ neg_ℤ (pos n)
raised zero = refl
raised (suc n) = let e : suc (suc n) - 2 ≡ n = omega arith in rw (lt-ltb 1 (suc (suc n)) (omega arith)) (ap negsuc e)

-- 0 − (−n) is n
turned : (n : ℕ) → pos 0 -ℤ neg_ℤ (pos n) ≡ pos n
turned zero = refl
turned (suc n) = let e : 0 + suc n ≡ suc n = omega arith in ap pos e

small : (n : ℕ) → n < 2 ^ 63 → SFits w64 (neg_ℤ (pos n))
small zero h = record { sfits = h }
small (suc n) h = record { sfits = omega arith }

-- each step fits, and the last is the size less 1
pub record Sized (z : ℤ) : Type 0 where
  pub up : SFits w64 (z +ℤ pos 1)
  pub down : SFits w64 (pos 0 -ℤ (z +ℤ pos 1))
  pub less : ℕ
  pub is : pos 0 -ℤ (z +ℤ pos 1) ≡ pos less
  pub size : nat_abs z ≡ less + 1
  pub low : less < 2 ^ 63

pub sized : (z : ℤ) → lt_z z (pos 0) ≡ true → SFits w64 z → Sized z
sized (pos n) h f = absurd (omega (arith, ltb-true n 0 h))
sized (negsuc n) h f =
    let low : n < 2 ^ 63 = f.sfits in
    record {
      up = rw (raised n) (small n low);
      down = rw (raised n, turned n) (record { sfits = low });
      less = n;
      is = rw (raised n) (turned n);
      size = omega arith;
      low = low;
    }

pub not_negative : (z : ℤ) → lt_z z (pos 0) ≡ false → T (non_neg z)
not_negative (pos n) h = tt
not_negative (negsuc n) h = let z : ◌≡◌ {A = ℕ} 0 1 = cc in absurd (omega arith)
