-- `orderly::find_bars` meets its contract: the loop's invariant is that the trains before i have their bars. Assumes nothing.
use Rattle.std.proofs.Common.{◌≡◌, length, ◌-◌}
use Rattle.numbers.specs.Counting.{nth}
use Rattle.orderly.specs.Bars.{Barred}
use Rattle.orderly.proofs.find_bars.Given as goal

abbrev pub invariant-loop-i : goal.invariant-loop-i
invariant-loop-i l = (length l.bars ≡ 33) × Barred (l.i - 1) (nth l.capacity) l.riders l.low l.bars
