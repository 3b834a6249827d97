-- `lines_from` meets its contract: the lines from here on give what the whole text gives, and those above are good.
-- The measure is what is left of the text. Assumes nothing.
use Rattle.std.proofs.Common.{sym, ◌∙◌, arith}
use Rattle.std.proofs.lemmas.Result.{err_from_is_err_and}
use Rattle.sheet.proofs.ReadingLaws.{rest_starts, rest_ends, rest_malformed, rest_faulty, rest_goes_on, next_later}
use Rattle.gather.proofs.SheetLinesLaws.{no_lines_good, one_more, lines_more}
use Rattle.sheet.proofs.walk.lines_from.Goals as goal

pub loop-p-init : goal.loop-p-init
loop-p-init c =
    let a = c.args in
    rw c.default-lines.ensures (rest_starts a.form a.text.now a.start, no_lines_good a.form)

pub returns-in_err-read : goal.returns-in_err-read
returns-in_err-read c =
    let p = err_from_is_err_and c.from_residual.result c.from_residual.ensures.1 in
    rw (p.1, p.2) (sym (rest_malformed c.args.form c.loop-p.invariant.0 c.loop-p-test.true _ (sym c.in_err-read.ensures)))

pub returns-in_err-line_fault : goal.returns-in_err-line_fault
returns-in_err-line_fault c =
    let p = err_from_is_err_and c.from_residual-in_err-line_fault.result c.from_residual-in_err-line_fault.ensures.1 in
    rw (p.1, p.2)
    (sym (rest_faulty c.args.form c.loop-p.invariant.0 c.loop-p-test.true _ (sym c.in_ok-read.ensures) _ (sym c.in_err-line_fault.ensures)))

pub push-requires : goal.push-requires
push-requires c = one_more c.loop-p.line c.loop-p.lines c.args.form _ (sym c.in_ok-line_fault.ensures)

pub loop-p-smaller : goal.loop-p-smaller
loop-p-smaller c =
    let here = c.loop-p-test.true in
    omega (arith, next_later c.args.form c.loop-p.invariant.0 here _ (sym c.in_ok-read.ensures), here)

pub loop-p-preserved : goal.loop-p-preserved
loop-p-preserved c =
    let good = sym c.in_ok-line_fault.ensures in
    rw c.push.ensures (
      rest_goes_on c.args.form c.loop-p.invariant.0 c.loop-p-test.true _ (sym c.in_ok-read.ensures) good,
      lines_more c.loop-p.line c.loop-p.lines c.args.form _ good c.loop-p.invariant.1,
    )

pub returns-in_err-end_fault : goal.returns-in_err-end_fault
returns-in_err-end_fault c =
    let p = err_from_is_err_and c.from_residual-in_err-end_fault.result c.from_residual-in_err-end_fault.ensures.1 in
    rw (p.1, p.2) (sym (rest_ends c.args.form c.loop-p.invariant.0 c.loop-p-test.false ∙ rw (sym c.in_err-end_fault.ensures)))

pub returns : goal.returns
returns c = sym (rest_ends c.args.form c.loop-p.invariant.0 c.loop-p-test.false ∙ rw (sym c.in_ok-end_fault.ensures))
