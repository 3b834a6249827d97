-- Laws of the first elements of a list. Assumes nothing.
use Rattle.std.specs.Prelude.{◌≡◌, refl, List, ◌∷◌, ℕ, zero, suc, ◌-◌, ◌≤◌, ◌<◌, length, take, replicate}
use Rattle.std.proofs.Common.{ap, arith, get_or-take, length-take}
use Rattle.numbers.specs.Counting.{at}

pub take_replicate : {A : Type 0} (n m : ℕ) (v : A) → n ≤ m → take n (replicate m v) ≡ replicate n v
take_replicate zero m v l = refl
take_replicate (suc n) zero v l = absurd (omega arith)
take_replicate {A} (suc n) (suc m) v l = ap (λ (t : List A). v ∷ t) (take_replicate n m v (omega arith))

-- a part from place 0
pub part_from_0 : {A : Type 0} (n : ℕ) (l : List A) → take (n - 0) l ≡ take n l
part_from_0 n l = let e : n - 0 ≡ n = omega arith in rw e

-- the elements of a slice of the first ones
pub first_at : (n : ℕ) (l : List ℕ) (i : ℕ) → i < length (take n l) → at (take n l) i ≡ at l i
first_at n l i h = get_or-take n l i 0 (omega (arith, length-take n l))
