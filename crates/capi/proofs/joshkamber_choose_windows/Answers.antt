-- `joshkamber_choose_windows` meets its contract: it tells the library's reply. Assumes nothing.
use Rattle.model.specs.Memory.{window_sheet}
use Rattle.exported.proofs.ExportedPlanningLaws.{exported_choice}
use Rattle.capi.proofs.joshkamber_choose_windows.Goals as goal

pub returns : goal.returns
returns c =
    let a = c.args in
    exported_choice (window_sheet a.sheet) a.wish _ _ c.choose-reply.result _ c.choose-reply.ensures c.from.ensures
