-- `watch::start::start` meets its contract: the first test that fails decides, else the search before its first round. Assumes nothing.
use Rattle.std.proofs.Common.{refl}
use Rattle.std.proofs.lemmas.Result.{err_from_is_err_and}
use Rattle.model.specs.Memory.{sheet_of}
use Rattle.rounds.specs.ByRound.{all_areas, start_to}
use Rattle.watch.proofs.CallLaws.{start_refused, start_granted}
use Rattle.watch.proofs.start.start.Goals as goal

pub returns-in_err-sheet : goal.returns-in_err-sheet
unfolding start_to
returns-in_err-sheet g c =
    let a = c.args in
    let p = err_from_is_err_and c.from_residual.result c.from_residual.ensures.1 in
    rw (← c.to_sheet.ensures, p.1, p.2)
    (start_refused (sheet_of c.to_sheet.result) (all_areas a.pairs.now a.train_of_order.now a.times.now) _ c.in_err-sheet.ensures.tests _ refl)

pub returns : goal.returns
unfolding start_to
returns g c =
    let a = c.args in
    let s = sheet_of c.in_ok-sheet.sheet.columns in
    rw (← c.to_sheet.ensures, ← c.in_ok-sheet.ensures.same, c.keep.ensures)
    (start_granted s (all_areas a.pairs.now a.train_of_order.now a.times.now) _ (rw (← c.in_ok-sheet.ensures.same) at c.in_ok-sheet.ensures.tests) refl
    c.start_search.result c.start_search.ensures)
