-- `joshkamber_start_timetable` meets its contract: it tells what the library gives. Assumes nothing.
use Rattle.model.specs.Memory.{timetable_sheet}
use Rattle.watched.proofs.ExportedWatchingLaws.{exported_start}
use Rattle.capi.proofs.watching.joshkamber_start_timetable.Goals as goal

pub returns : goal.returns
returns c = exported_start (timetable_sheet c.args.sheet) _ c.start.result _ c.start.ensures c.from.ensures
