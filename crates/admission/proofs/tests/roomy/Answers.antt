-- `tests::roomy` meets its contract: the call makes the test. Assumes nothing.
use Rattle.model.specs.Admission.{roomy}
use Rattle.admission.proofs.tests.roomy.Goals as goal

pub returns : goal.returns
unfolding roomy
returns c = c.are_enough.ensures
