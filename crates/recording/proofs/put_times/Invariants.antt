-- `recording::put_times` meets its contract: the times of the first i trains stand at the front of the area. Assumes nothing.
use Rattle.std.proofs.Common.{◌≡◌, take}
use Rattle.numbers.specs.Over.{over}
use Rattle.rounds.specs.Areas.{time_numbers}
use Rattle.recording.proofs.put_times.Given as goal

abbrev pub invariant-loop-i : goal.invariant-loop-i
invariant-loop-i l = l.out ≡ over (time_numbers (take l.q l.departure) (take l.q l.arrival) (take l.q l.window) l.i) l.initial.out
