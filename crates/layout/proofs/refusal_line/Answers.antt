-- `refusal_line` meets its contract: its fields are put one behind the other. Assumes nothing.
use Rattle.writing.proofs.WritingLaws.{puts_then}
use Rattle.layout.specs.Lines.{refusal_line}
use Rattle.layout.proofs.refusal_line.Goals as goal

pub returns : goal.returns
unfolding refusal_line
returns c =
    rw (← c.number-number.ensures, ← c.returned-returned.ensures)
    (puts_then _ _ (puts_then _ _ (puts_then _ _ c.put.ensures c.number_field.ensures) c.number_field-2.ensures) c.put-2.ensures)
