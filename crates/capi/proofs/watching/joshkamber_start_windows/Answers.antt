-- `joshkamber_start_windows` meets its contract: it tells what the library gives. Assumes nothing.
use Rattle.model.specs.Memory.{window_sheet}
use Rattle.watched.proofs.ExportedWatchingLaws.{exported_start}
use Rattle.capi.proofs.watching.joshkamber_start_windows.Goals as goal

pub returns : goal.returns
returns c = exported_start (window_sheet c.args.sheet) _ c.start.result _ c.start.ensures c.from.ensures
