-- `room::for_listing` meets its contract: the first of tests 4, 5, 2, 6, 7 that fails, else 10. Assumes nothing.
use Rattle.std.proofs.Common.{sym, ap, ◌∙◌}
use Rattle.std.proofs.lemmas.Result.{err_from_is_err_and}
use Rattle.model.specs.Memory.{sheet_of}
use Rattle.model.specs.declared.Sheet.{Sheet}
use Rattle.rounds.specs.Areas.{list_room}
use Rattle.room.proofs.CallLaws.{tested_first, tested_room}
use Rattle.room.proofs.for_listing.Goals as goal

pub returns-in_err-sheet-clause-tests : goal.returns-in_err-sheet-clause-tests
returns-in_err-sheet-clause-tests c =
    let p = err_from_is_err_and c.from_residual.result c.from_residual.ensures.1 in
    rw (p.1, p.2) (tested_first (sheet_of c.args.sheet) _ _ c.in_err-sheet.ensures.tests)

pub returns-in_err-with_room-clause-tests : goal.returns-in_err-with_room-clause-tests
returns-in_err-with_room-clause-tests c =
    let p = err_from_is_err_and c.from_residual-in_err-with_room.result c.from_residual-in_err-with_room.ensures.1 in
    let same = ap (λ (m : Sheet). list_room (sheet_of m) c.args.pairs) c.in_ok-sheet.ensures.same in
    rw (p.1, p.2) (sym c.in_err-with_room.was ∙ tested_room _ c.in_ok-sheet.ensures.tests c.with_room.ensures (c.holds_pairs.ensures ∙ same))

pub returns-clause-tests : goal.returns-clause-tests
returns-clause-tests c =
    let same = ap (λ (m : Sheet). list_room (sheet_of m) c.args.pairs) c.in_ok-sheet.ensures.same in
    sym c.in_ok-with_room.was ∙ tested_room _ c.in_ok-sheet.ensures.tests c.with_room.ensures (c.holds_pairs.ensures ∙ same)
