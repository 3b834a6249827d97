-- `tests::times_in_order` meets its contract: the calls give the tests of its columns. Assumes nothing.
use Rattle.admission.proofs.ColumnTestLaws.{times_order}
use Rattle.admission.proofs.tests.times_in_order.Goals as goal

pub returns : goal.returns
returns c = (cc (times_order c.args.sheet.now))
