-- `timing::arrive` meets its contract: the form decides which arrivals they are. Assumes nothing.
use Rattle.std.proofs.Common.{◌≡◌, sym, arith, rules, length}
use Rattle.model.specs.declared.Form.TheVariants.{Timetable}
use Rattle.timing.proofs.TimingStepLaws.{row_nth, arrived_by_form}
use Rattle.timing.proofs.arrive.Goals as goal

pub returns-in-Timetable : goal.returns-in-Timetable
returns-in-Timetable c =
    let m = c.args.sheet.columns in
    let long : length m.arrival ≡ 32 = search rules in
    arrived_by_form m c.args.departure m.arrival Timetable c.in-Timetable.is
    (sym (row_nth m.arrival m.train_count (omega (arith, long, c.args.sheet.admitted.few.trains))))
