-- `riders::standing::picked` meets its contract: the loop's invariant is what is picked of the first j orders. Assumes nothing.
use Rattle.std.proofs.Common.{◌≡◌, ℕ, Bool}
use Rattle.numbers.specs.Counting.{at}
use Rattle.riders.specs.Standing.{standing, picked}
use Rattle.riders.proofs.standing.picked.Given as goal

abbrev pub invariant-loop-j : goal.invariant-loop-j
invariant-loop-j g l =
    (test : ℕ → Bool) (op : ℕ → ℕ → ℕ) → ((j : ℕ) (b : Bool) → goal.T-post g l.passes j b → b ≡ test j)
    → ((a b v : ℕ) → goal.P-post g l.pick a b v → v ≡ op a b) → l.so_far ≡ picked op l.none test (standing (at l.release)) l.j
