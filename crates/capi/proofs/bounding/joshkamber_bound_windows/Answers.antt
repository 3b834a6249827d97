-- `joshkamber_bound_windows` meets its contract: it tells the library's reply. Assumes nothing.
use Rattle.model.specs.Memory.{window_sheet}
use Rattle.exported.proofs.ExportedBoundLaws.{exported_bound}
use Rattle.capi.proofs.bounding.joshkamber_bound_windows.Goals as goal

pub returns : goal.returns
returns c =
    exported_bound (window_sheet c.args.sheet) c.bound.result _ c.bound.ensures c.from.ensures
