-- `tests::few` meets its contract, since the call gives the part of windows. Assumes nothing.
use Rattle.model.specs.Admission.{few}
use Rattle.admission.proofs.tests.few.Goals as goal

pub returns : goal.returns
unfolding few
returns c = cc
