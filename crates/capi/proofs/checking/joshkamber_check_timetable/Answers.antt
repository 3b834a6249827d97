-- `joshkamber_check_timetable` meets its contract: it tells the library's reply. Assumes nothing.
use Rattle.model.specs.Memory.{timetable_sheet}
use Rattle.checked.proofs.ExportedCheckingLaws.{exported_check}
use Rattle.capi.proofs.checking.joshkamber_check_timetable.Goals as goal

pub returns : goal.returns
returns c =
    let a = c.args in
    exported_check (timetable_sheet a.sheet) a.departures.now a.rows.now _ _ c.check.result _ c.check.ensures c.from.ensures
