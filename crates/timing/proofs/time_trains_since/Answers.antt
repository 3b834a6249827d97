-- `timing::time_trains_since` meets its contract: the form decides which timing it is. Assumes nothing.
use Rattle.std.proofs.Common.{◌≡◌, ◌∙◌, ap, rules, length, replicate}
use Rattle.numbers.specs.Counting.{nth}
use Rattle.model.specs.Memory.{windows_of}
use Rattle.model.specs.declared.Form.TheVariants.{Windows, Timetable}
use Rattle.timing.specs.declared.Times.{Times}
use Rattle.timing.specs.Timed.{timed_in}
use Rattle.timing.proofs.TimingStepLaws.{timed_when, timed_by_form, windows_timed, windows_stopped, fixed_timed, timetable_timed}
use Rattle.timing.proofs.time_trains_since.Goals as goal

pub returns-in_err-departure-in-Windows : goal.returns-in_err-departure-in-Windows
returns-in_err-departure-in-Windows c =
    let m = c.args.sheet.columns in
    let released = c.releases-released in
    ap (timed_in m.train_count) c.from_residual.ensures
    ∙ windows_stopped (windows_of m) (nth released.result) m.train_count c.in_err-departure-in-Windows.ensures.is
    ∙ timed_by_form m c.args.train c.args.since released.result Windows c.in-Windows.is c.args.sheet.admitted.few.trains released.ensures

pub returns-in_ok-departure-in-Windows : goal.returns-in_ok-departure-in-Windows
returns-in_ok-departure-in-Windows c =
    let m = c.args.sheet.columns in
    let released = c.releases-released in
    let leaving = c.in_ok-departure-in-Windows.field-0 in
    let arrivals = c.find_arrivals-arrival in
    windows_timed (windows_of m) (nth released.result) m.train_count leaving.departure arrivals.result leaving.window
    c.in_ok-departure-in-Windows.ensures.is arrivals.ensures
    ∙ timed_by_form m c.args.train c.args.since released.result Windows c.in-Windows.is c.args.sheet.admitted.few.trains released.ensures

pub returns-in-Timetable : goal.returns-in-Timetable
returns-in-Timetable c =
    let m = c.args.sheet.columns in
    let released = c.releases-released in
    let keeps = c.none_above in
    let few = c.args.sheet.admitted.few.trains in
    let departures_long : length m.departure ≡ 32 = search rules in
    let arrivals_long : length m.arrival ≡ 32 = search rules in
    let told : Times = record { departure = m.departure; arrival = m.arrival; window = replicate 32 0 } in
    ap (timed_in m.train_count) c.then_some.ensures
    ∙ timed_when m.train_count told keeps.result
    ∙ fixed_timed m.departure m.arrival m.train_count keeps.result few departures_long arrivals_long
    ∙ timetable_timed m.departure m.arrival m.train_count (nth released.result) keeps.result keeps.ensures
    ∙ timed_by_form m c.args.train c.args.since released.result Timetable c.in-Timetable.is few released.ensures
