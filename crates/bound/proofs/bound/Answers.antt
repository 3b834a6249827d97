-- `bound::bound` meets its contract: the first test that fails decides, else the figure. Assumes nothing.
use Rattle.std.proofs.Common.{refl, ap, ◌∙◌}
use Rattle.std.specs.Prelude.{Ok}
use Rattle.std.proofs.lemmas.Result.{err_from_is_err_and}
use Rattle.model.specs.Memory.{sheet_of}
use Rattle.model.specs.declared.Sheet.{Sheet}
use Rattle.rounds.specs.RoundsBound.{rounds_bound}
use Rattle.bound.proofs.BoundCallLaws.{told_refused, told_figure, bound_call}
use Rattle.bound.proofs.bound.Goals as goal

pub returns-in_err-sheet : goal.returns-in_err-sheet
returns-in_err-sheet g c =
    let s = sheet_of c.to_sheet.result in
    let p = err_from_is_err_and c.from_residual.result c.from_residual.ensures.1 in
    rw (← c.to_sheet.ensures, p.1, p.2) (bound_call s _ (told_refused s _ c.in_err-sheet.ensures.tests _ refl))

pub returns : goal.returns
returns g c =
    let s = sheet_of c.to_sheet.result in
    let same = ap (λ (m : Sheet). rounds_bound (sheet_of m)) c.in_ok-sheet.ensures.same in
    rw (← c.to_sheet.ensures) (bound_call s _ (ap Ok (c.figure.ensures ∙ same) ∙ told_figure s _ c.in_ok-sheet.ensures.tests refl))
