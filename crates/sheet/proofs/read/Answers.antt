-- `read` meets its contract: what the lines make, or their refusal. Assumes nothing.
use Rattle.std.proofs.Common.{ap}
use Rattle.std.proofs.lemmas.Result.{err_from_is_err_and}
use Rattle.sheet.specs.Sheets.{reading_of, reading_as, reading}
use Rattle.sheet.proofs.ReadingCallLaws.{reads}
use Rattle.sheet.proofs.read.Goals as goal

pub returns-in_err-lines : goal.returns-in_err-lines
unfolding reading reading_as
returns-in_err-lines c =
    let a = c.args in
    let p = err_from_is_err_and c.from_residual.result c.from_residual.ensures.1 in
    rw (p.1, p.2) (reads a.form a.text.now _ (ap (reading_of (λ s. s) a.form) c.in_err-lines.ensures))

pub returns : goal.returns
unfolding reading reading_as
returns c =
    let a = c.args in
    reads a.form a.text.now _
    (rw (c.sheet_from.ensures, c.names_from.ensures) (ap (reading_of (λ s. s) a.form) c.in_ok-lines.ensures))
