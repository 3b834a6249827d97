-- Tests of columns at one place.
use Rattle.std.specs.Prelude.{Bool, List, ℕ, ◌+◌, leb}
use Rattle.numbers.specs.Counting.{at}
use Rattle.model.specs.Limits.{Range, inside}

-- the element is in the range
abbrev pub inside_at : Range → List ℕ → ℕ → Bool
inside_at r l j = inside r (at l j)

-- the element of a, and `by` more, is at most the one of b that stands `ahead` places further on
abbrev pub apart_at : (ahead by : ℕ) (a b : List ℕ) → ℕ → Bool
apart_at ahead by a b j = leb (at a j + by) (at b (j + ahead))
