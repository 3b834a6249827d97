-- The gone part as the code has it, and the columns that it makes of it.
use Rattle.std.specs.Prelude.{◌≡◌, cond, List, ℕ, suc, ltb, eqb, length, replicate}
use Rattle.numbers.specs.Counting.{at, count}
use Rattle.model.specs.Limits.{train_counts}
use Rattle.model.specs.Gone.{Gone}
use Rattle.model.specs.declared.Row.{Row}
use Rattle.model.specs.declared.Sheet as memory
use Rattle.foreign.specs.Gathered.{gathered}
use Rattle.foreign.specs.declared.Given.{Given}
use Rattle.search.specs.declared.Outset.{Outset}

abbrev pub gone_part : (departure : List ℕ) → List Row → (minute : ℕ) → Gone
gone_part departure rows minute = record { departure = departure; rows = rows; minute = minute }

-- it was gathered from rows
abbrev pub Gathered : Given → Type 0
Gathered given = (rows : List Row) × (given ≡ gathered rows (length rows))

-- the first n elements are f's, the others g's
abbrev pub Filled : (f g : ℕ → ℕ) (n : ℕ) → List ℕ → Type 0
Filled f g n l = (k : ℕ) → at l k ≡ cond (ltb k n) (f k) (g k)

-- the columns behind so many gone trains
pub record Behind (m : memory.Sheet) (gone : ℕ) (train departure : List ℕ) (minute : ℕ) (r : Outset) : Type 0 where
  pub capacity : Filled (λ k. count (λ j. eqb (at train j) (suc k)) m.order_count) (at m.capacity) gone r.capacity
  pub latest : Filled (λ j. cond (eqb (at train j) 0) m.train_count (at train j)) (at train) m.order_count r.latest
  pub since : Filled (at departure) (at (replicate train_counts.most minute)) gone r.since
