-- A number of the pairs area as an arrival: whether it fits 32 bits, and is no greater than the last arrival. Assumes nothing.
use Rattle.std.specs.Prelude.{◌≡◌, refl, ℕ, ◌≤◌, ◌<◌, ℤ, pos, negsuc, nat_abs}
use Rattle.std.proofs.Common.{sym, ◌∙◌, arith}
use Rattle.std.specs.Int.{FitsUnsignedBits}
use Rattle.numbers.specs.DecidesLaws.{decides_le, cond_yes, cond_no}
use Rattle.model.specs.Limits.{last_arrival}
use Rattle.areas.specs.Wish.{arrival_of}

pub an_arrival : (z : ℤ) (n : ℕ) → FitsUnsignedBits 32 z → n ≡ nat_abs z → n ≤ last_arrival → n ≡ arrival_of z
unfolding arrival_of
an_arrival (pos m) n f e l = e ∙ sym (cond_yes (decides_le m last_arrival) (omega arith) m 0)
an_arrival (negsuc m) n f e l = absurd f

pub too_great : (z : ℤ) (n : ℕ) → n ≡ nat_abs z → last_arrival < n → 0 ≡ arrival_of z
unfolding arrival_of
too_great (pos m) n e l = sym (cond_no (decides_le m last_arrival) (λ h. omega arith) m 0)
too_great (negsuc m) n e l = refl

pub no_fit : (z : ℤ) → (FitsUnsignedBits 32 z → ⊥) → 0 ≡ arrival_of z
unfolding arrival_of
no_fit (pos m) f = sym (cond_no (decides_le m last_arrival) (λ h. f (omega arith)) m 0)
no_fit (negsuc m) f = refl
