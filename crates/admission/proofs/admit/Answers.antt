-- `admit` meets its contract: a sheet that passes all tests is admitted. Assumes nothing.
use Rattle.std.proofs.Common.{sym, ◌∙◌}
use Rattle.model.proofs.AdmissionLaws.{admitted_means}
use Rattle.admission.proofs.admit.Goals as goal

pub invariant_of-result : goal.invariant_of-result
invariant_of-result c = record { admitted = (admitted_means _).0 (sym c.test_sheet.ensures ∙ c.in_ok-test_sheet.was) }
