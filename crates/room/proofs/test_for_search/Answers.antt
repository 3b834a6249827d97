-- `room::test_for_search` meets its contract: the first of tests 4, 5, 2, 6, 7 that fails, else 10 of all three areas. Assumes nothing.
use Rattle.std.proofs.Common.{sym, ◌∙◌}
use Rattle.std.proofs.lemmas.Result.{err_from_is_err_and}
use Rattle.model.specs.Memory.{sheet_of}
use Rattle.model.proofs.AdmissionLaws.{admitted_means}
use Rattle.room.proofs.CallLaws.{tested_first, tested_room}
use Rattle.room.proofs.test_for_search.Goals as goal

pub returns-in_err-test_sheet : goal.returns-in_err-test_sheet
returns-in_err-test_sheet c =
    let p = err_from_is_err_and c.from_residual.result c.from_residual.ensures.1 in
    rw (p.1, p.2) (tested_first (sheet_of c.args.sheet.now) _ _ (sym c.in_err-test_sheet.was ∙ c.test_sheet.ensures))

pub invariant_of-sheet : goal.invariant_of-sheet
invariant_of-sheet c = record { admitted = (admitted_means _).0 (sym c.test_sheet.ensures ∙ c.in_ok-test_sheet.was) }

pub returns : goal.returns
returns c = tested_room _ (sym c.in_ok-test_sheet.was ∙ c.test_sheet.ensures) c.with_room.ensures (rw (c.holds_pairs.ensures, c.holds_plan.ensures))
