-- `joshkamber_list_windows` meets its contract: it tells the library's reply. Assumes nothing.
use Rattle.model.specs.Memory.{window_sheet}
use Rattle.exported.proofs.ExportedPlanningLaws.{exported_listing}
use Rattle.capi.proofs.joshkamber_list_windows.Goals as goal

pub returns : goal.returns
returns c =
    let a = c.args in
    exported_listing (window_sheet a.sheet) _ _ c.list.result _ c.list.ensures c.from.ensures
