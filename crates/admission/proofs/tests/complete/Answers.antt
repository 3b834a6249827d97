-- `tests::complete` meets its contract, since the call gives the part of windows. Assumes nothing.
use Rattle.model.specs.Admission.{complete}
use Rattle.admission.proofs.tests.complete.Goals as goal

pub returns : goal.returns
unfolding complete
returns c = cc
