-- `orderly::is_under` meets its contract: the loop's invariant is that the standing is below the bars before i. Assumes nothing.
use Prim.Native.Nat.{ℕ, ◌-◌, ◌<◌}
use Rattle.numbers.specs.Counting.{at}
use Rattle.orderly.proofs.is_under.Given as goal

abbrev pub invariant-loop-i : goal.invariant-loop-i
invariant-loop-i l = (l.from < l.i) × ((k : ℕ) → l.from < k → k < l.i → l.own < at l.bars k)

abbrev pub decreases-loop-i : goal.decreases-loop-i
decreases-loop-i l = 33 - l.i
