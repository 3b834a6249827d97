-- `timing::find_departures` meets its contract: the loop's invariant is that trains 1 to i have left, each in the window told, and that the first m windows
-- are over at the instant that the next train awaits. Assumes nothing.
use mathlib.Core.Path.{◌≡◌}
use Prim.Native.Nat.{◌≤◌, ◌+◌, ◌-◌, max}
use lib.ListN.{length, take}
use Rattle.numbers.specs.Counting.{at, nth}
use Rattle.model.specs.Memory.{windows_of}
use Rattle.rounds.specs.Timing.{earliest, departed, departures}
use Rattle.timing.specs.Timed.{WindowsOver, HaveLeft}
use Rattle.timing.proofs.find_departures.Given as goal

abbrev pub invariant-loop-i : goal.invariant-loop-i
invariant-loop-i l =
    ((l.i ≤ l.sheet.columns.train_count) × (l.m ≤ l.sheet.columns.window_count) × (length l.window ≡ 32))
    × HaveLeft l.i l.departure
    × (departures (windows_of l.sheet.columns) (nth l.released) l.i ≡ departed (take l.i l.departure) (take l.i l.window))
    × (max l.t (at l.released l.i) ≡ earliest l.sheet.columns.gap (take l.i l.departure) l.i (at l.released l.i))
    × WindowsOver l.to (max l.t (at l.released l.i)) l.m

abbrev pub decreases-loop-i : goal.decreases-loop-i
decreases-loop-i l = l.sheet.columns.train_count - l.i + (l.sheet.columns.window_count - l.m)
