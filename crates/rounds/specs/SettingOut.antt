-- WHAT THE CODE ASKS OF AN OUTSET that it is given in columns.
use Rattle.std.specs.Prelude.{◌≡◌, ℕ, ◌≤◌, ◌<◌, leb}
use Rattle.numbers.specs.Counting.{at, count}
use Rattle.model.specs.Sheet.{Sheet, places}
use Rattle.rounds.specs.Outset.{Outset}

-- it can be set out from: its latest trains are trains, step 5 sees no crowd in them, and no train has more places than on the sheet
pub record Sets (s : Sheet) (o : Outset) : Type 0 where
  pub upto : (j : ℕ) → j < s.orders → at o.latest j ≤ s.trains
  pub fits : (i : ℕ) → i ≤ s.trains → count (λ j. leb (at o.latest j) i) s.orders ≤ places o.capacity i
  pub fewer : (i : ℕ) → 1 ≤ i → o.capacity i ≤ s.capacity i

-- two outsets have the same places, latest trains, and instants of trains 1 to q, so that a search from either is the same (SameOutsetLaws.antt). The places
-- are the same of every train: `Sets` asks of them all.
pub record Agree (q : ℕ) (o o' : Outset) : Type 0 where
  pub capacity : (i : ℕ) → 1 ≤ i → o.capacity i ≡ o'.capacity i
  pub latest : o.latest ≡ o'.latest
  pub since : (i : ℕ) → 1 ≤ i → i ≤ q → o.since i ≡ o'.since i
