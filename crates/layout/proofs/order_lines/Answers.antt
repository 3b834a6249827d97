-- `order_lines` meets its contract: the loop's invariant is that the lines passed are put. Assumes nothing.
use Rattle.std.proofs.Common.{sym}
use Rattle.writing.proofs.WritingLaws.{puts_none, puts_then, puts_same}
use Rattle.layout.specs.Lines.{name_of, order_lines}
use Rattle.layout.proofs.LineLaws.{order_next}
use Rattle.layout.proofs.order_lines.Goals as goal

pub loop-i-init : goal.loop-i-init
unfolding order_lines
loop-i-init c = puts_none _

pub loop-i-preserved : goal.loop-i-preserved
unfolding name_of
loop-i-preserved c =
    let a = c.args in
    let line = rw c.name_part-name.ensures.bytes at c.order_line.ensures in
    puts_same (sym (order_next (name_of a.text.now a.names) a.trains.now c.loop-i.i)) (puts_then _ _ c.loop-i.invariant line)
