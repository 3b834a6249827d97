-- `joshkamber_check_windows` meets its contract: it tells the library's reply. Assumes nothing.
use Rattle.model.specs.Memory.{window_sheet}
use Rattle.checked.proofs.ExportedCheckingLaws.{exported_check}
use Rattle.capi.proofs.checking.joshkamber_check_windows.Goals as goal

pub returns : goal.returns
returns c =
    let a = c.args in
    exported_check (window_sheet a.sheet) a.departures.now a.rows.now _ _ c.check.result _ c.check.ensures c.from.ensures
