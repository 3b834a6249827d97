-- A plan's `put_on` meets its contract: its lines are put one behind the other. Assumes nothing.
use Rattle.writing.proofs.WritingLaws.{puts_then}
use Rattle.printer.specs.PlanBytes.{plan_bytes}
use Rattle.printer.proofs.PlanLines.put_on.Goals as goal

pub returns : goal.returns
unfolding plan_bytes
returns c =
    puts_then _ _ (puts_then _ _ (puts_then _ _ c.pair_lines.ensures c.time_lines.ensures) c.order_lines.ensures) c.rounds_line.ensures
