-- `number_field` meets its contract: a comma, and the number behind it. Assumes nothing.
use Rattle.writing.proofs.WritingLaws.{puts_cons}
use Rattle.writing.proofs.Page.number_field.Goals as goal

pub returns : goal.returns
returns c = puts_cons _ _ _ _ _ c.put.ensures c.put_decimal.ensures
