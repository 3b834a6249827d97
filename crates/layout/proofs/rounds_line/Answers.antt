-- `rounds_line` meets its contract: its fields are put one behind the other. Assumes nothing.
use Rattle.writing.proofs.WritingLaws.{puts_then}
use Rattle.layout.specs.Lines.{rounds_line}
use Rattle.layout.proofs.rounds_line.Goals as goal

pub returns : goal.returns
unfolding rounds_line
returns c = puts_then _ _ (puts_then _ _ c.put.ensures c.number_field.ensures) c.put-2.ensures
