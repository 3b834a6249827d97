-- `orderly::next_lower` meets its contract: the loop's invariant is that no bar between i and m is lower than that of i. Assumes nothing.
use Prim.Native.Nat.{◌-◌}
use Rattle.orderly.specs.Bars.{Skip}
use Rattle.orderly.proofs.next_lower.Given as goal

abbrev pub invariant-loop-m : goal.invariant-loop-m
invariant-loop-m l = Skip l.i l.q l.bars l.m

abbrev pub decreases-loop-m : goal.decreases-loop-m
decreases-loop-m l = 33 - l.m
