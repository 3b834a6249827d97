-- `time_lines` meets its contract: the loop's invariant is that the lines passed are put. Assumes nothing.
use Rattle.std.proofs.Common.{◌≡◌, ◌*◌, length, drop}
use Rattle.model.specs.Limits.{numbers_a_train}
use Rattle.writing.specs.Writing.{Puts}
use Rattle.layout.specs.Lines.{time_lines}
use Rattle.layout.proofs.time_lines.Given as goal

abbrev pub invariant-loop-i : goal.invariant-loop-i
invariant-loop-i l = (l.i-iterator.iter.size ≡ numbers_a_train) × (l.i-iterator.count ≡ length l.yielded)
    × (l.i-iterator.iter.rest.now ≡ drop (numbers_a_train * length l.yielded) l.times)
    × (Puts (time_lines l.times (length l.yielded)) l.initial.page l.page)
