-- `orderly::find_skips` meets its contract: the loop's invariant is that the trains from i on are done. Assumes nothing.
use Rattle.std.proofs.Common.{◌≡◌, length, ◌-◌}
use Rattle.orderly.specs.Bars.{Skips}
use Rattle.orderly.proofs.find_skips.Given as goal

abbrev pub invariant-loop-i : goal.invariant-loop-i
invariant-loop-i l = (length l.next ≡ 33) × Skips (l.i - 1) l.q l.bars l.next
