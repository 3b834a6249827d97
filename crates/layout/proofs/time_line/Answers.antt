-- `time_line` meets its contract: its fields are put one behind the other. Assumes nothing.
use Rattle.writing.proofs.WritingLaws.{puts_then}
use Rattle.layout.specs.Lines.{time_line}
use Rattle.layout.proofs.time_line.Goals as goal

pub returns : goal.returns
unfolding time_line
returns c =
    let numbers = puts_then _ _ (puts_then _ _ (puts_then _ _ c.put.ensures c.number_field.ensures) c.number_field-2.ensures) c.number_field-3.ensures in
    puts_then _ _ (puts_then _ _ numbers c.number_field-4.ensures) c.put-2.ensures
