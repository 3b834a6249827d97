-- `tests::times_in_range` meets its contract: the calls give the tests of its columns. Assumes nothing.
use Rattle.admission.proofs.ColumnTestLaws.{times_range}
use Rattle.admission.proofs.tests.times_in_range.Goals as goal

pub returns : goal.returns
returns c = (cc (times_range c.args.sheet.now))
