-- `order_lines` meets its contract: the loop's invariant is that the lines passed are put. Assumes nothing.
use Rattle.writing.specs.Writing.{Puts}
use Rattle.layout.specs.Lines.{name_of, order_lines}
use Rattle.layout.proofs.order_lines.Given as goal

abbrev pub invariant-loop-i : goal.invariant-loop-i
invariant-loop-i l =
    Puts (order_lines (name_of l.text l.names) l.trains l.i) l.initial.page l.page
