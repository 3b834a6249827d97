-- AN OUTSET IN MEMORY as one of the rounds.
use Rattle.std.specs.Prelude.{ℕ, take}
use Rattle.numbers.specs.Counting.{nth}
use Rattle.rounds.specs.Outset.{Outset}
use Rattle.search.specs.declared.Outset as memory

-- with the latest trains of n orders
abbrev pub outset_of : (n : ℕ) → memory.Outset → Outset
outset_of n c = record { capacity = nth c.capacity; latest = take n c.latest; since = nth c.since }
