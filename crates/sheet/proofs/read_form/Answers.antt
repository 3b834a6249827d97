-- `read_form` meets its contract: it hands over the reading of its form. Assumes nothing.
use Rattle.std.proofs.lemmas.Result.{err_from_is_err_and}
use Rattle.sheet.proofs.ReadingCallLaws.{columns_given, refusal_given}
use Rattle.sheet.proofs.read_form.Goals as goal

pub returns-in_err-sheet : goal.returns-in_err-sheet
returns-in_err-sheet g c =
    let s = g.S.SheetOfForm in
    let p = err_from_is_err_and c.from_residual.result c.from_residual.ensures.1 in
    rw (p.1, p.2)
    (refusal_given g.S.AnySheet.meant s.columns_of s.form g.met.S.SheetOfForm.keeps c.args.text.now _ c.form.ensures _ c.in_err-sheet.ensures)

pub returns : goal.returns
returns g c =
    let s = g.S.SheetOfForm in
    rw c.of_sheet.ensures
    (columns_given g.S.AnySheet.meant s.columns_of s.form g.met.S.SheetOfForm.keeps c.args.text.now _ c.form.ensures _ c.in_ok-sheet.ensures)
