-- `tests::in_range` meets its contract: the calls give its parts. Assumes nothing.
use Rattle.admission.proofs.ColumnTestLaws.{inside_numbered}
use Rattle.model.specs.Admission.{in_range}
use Rattle.model.specs.Limits.{capacity_range}
use Rattle.admission.proofs.tests.in_range.Goals as goal

pub returns : goal.returns
unfolding in_range
returns c =
    let m = c.args.sheet.now in
    cc (inside_numbered capacity_range m.capacity m.train_count)
