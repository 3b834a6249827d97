-- `pair_lines` meets its contract: the loop's invariant is that the lines passed are put. Assumes nothing.
use Rattle.std.proofs.Common.{◌≡◌, ◌*◌, length, drop}
use Rattle.model.specs.Limits.{numbers_a_pair}
use Rattle.writing.specs.Writing.{Puts}
use Rattle.layout.specs.Lines.{pair_lines}
use Rattle.layout.proofs.pair_lines.Given as goal

abbrev pub invariant-loop-pair : goal.invariant-loop-pair
invariant-loop-pair l = (l.pair-iterator.size ≡ numbers_a_pair) × (l.pair-iterator.rest.now ≡ drop (numbers_a_pair * length l.yielded) l.pairs)
    × (Puts (pair_lines l.pairs (length l.yielded)) l.initial.page l.page)
