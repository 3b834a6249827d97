-- Two words of a loading: which of two orders is below the other, and who rides a train.
use Rattle.std.specs.Prelude.{◌≡◌, List, Bool, eqb, ℕ, ◌≤◌, ◌<◌}
use Rattle.numbers.specs.Counting.{at}

-- (release, number) of order j is below that of order k
pub record Below (release : ℕ → ℕ) (j k : ℕ) : Type 0 where
  pub no_later : release j ≤ release k
  pub tie : release j ≡ release k → j < k

-- order j rides train i
abbrev pub on : List ℕ → ℕ → ℕ → Bool
on train i j = eqb (at train j) i
