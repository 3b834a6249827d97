-- `checker::judging::judge` meets its contract: each return is that of the first test that fails, or the pair of a schedule. Assumes nothing.
use Rattle.std.proofs.Common.{sym, ap, ◌∙◌, not}
use Rattle.numbers.specs.DecidesLaws.{test_means}
use Rattle.model.specs.Memory.{sheet_of}
use Rattle.model.specs.Limits.{◌–◌}
use Rattle.model.proofs.ScheduleTestLaws.{decides_schedule}
use Rattle.foreign.proofs.GatheredLaws.{train_inside}
use Rattle.rules.specs.Rules.{pair_told}
use Rattle.checker.proofs.JudgingLaws.{column_passed, wrong_rows, rule_broken, all_kept}
use Rattle.checker.proofs.judging.judge.Goals as goal

pub returns-then-not-fit : goal.returns-then-not-fit
returns-then-not-fit c rows e =
    let a = c.args in
    wrong_rows (sheet_of a.sheet.columns) c.args.sheet.admitted a.departures.now rows a.given e c.fits.result c.fits.ensures (ap not c.if-not-fit.true)

pub is_schedule-requires : goal.is_schedule-requires
is_schedule-requires c =
    let a = c.args in
    let m = sheet_of a.sheet.columns in
    let fits = column_passed m a.departures.now a.given c.fits.result c.fits.ensures (ap not c.if-not-fit.false) in
    train_inside m.orders (1 – m.trains) a.given c.args.sheet.admitted.few.orders fits

pub returns-then-not-is_schedule : goal.returns-then-not-is_schedule
returns-then-not-is_schedule c rows e =
    let a = c.args in
    rule_broken (sheet_of a.sheet.columns) c.args.sheet.admitted a.departures.now rows a.given e c.fits.result c.fits.ensures (ap not c.if-not-fit.false)
    c.column_of-departure.result c.column_of-departure.ensures c.is_schedule.result c.is_schedule.ensures (ap not c.if-not-is_schedule.true)

pub pair_of-requires : goal.pair_of-requires
pair_of-requires c =
    test_means (decides_schedule (sheet_of c.args.sheet.columns) _ _) (sym c.is_schedule.ensures ∙ c.if-not-is_schedule.false)

pub returns : goal.returns
returns c rows e =
    let a = c.args in
    let pair = c.pair_of in
    (all_kept (sheet_of a.sheet.columns) c.args.sheet.admitted a.departures.now rows a.given e c.fits.result c.fits.ensures (ap not c.if-not-fit.false)
    c.column_of-departure.result c.column_of-departure.ensures c.is_schedule.result c.is_schedule.ensures (ap not c.if-not-is_schedule.false)
    (pair_told pair.result) pair.ensures)
