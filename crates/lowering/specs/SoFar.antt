-- How far the loops of steps 4 and 5 have come.
use Rattle.std.specs.Prelude.{◌≡◌, Bool, false, List, ℕ, zero, suc, ◌≤◌, ◌<◌, ℤ}
use Rattle.numbers.specs.Counting.{at}
use Rattle.rounds.specs.Lowering.{latest_below, crowded}

-- of these latest trains the first n are lowered and the others are as they were
pub record LoweredTo (weight due F : ℕ → ℕ) (y : ℤ) (latest : List ℕ) (n : ℕ) (now : List ℕ) : Type 0 where
  pub done : (k : ℕ) → k < n → at now k ≡ latest_below (weight k) (due k) F y (at latest k)
  pub kept : (k : ℕ) → n ≤ k → at now k ≡ at latest k

-- whether it is crowded at some number below i
unfoldable pub crowded_below : (n : ℕ) (capacity : ℕ → ℕ) (latest : List ℕ) → ℕ → Bool
unfolding crowded
crowded_below n capacity latest zero = false
crowded_below n capacity latest (suc i) = crowded n capacity latest i
