-- `joshkamber_round_windows` meets its contract: it tells what the library gives. Assumes nothing.
use Rattle.model.specs.Memory.{window_sheet}
use Rattle.watched.proofs.ExportedWatchingLaws.{exported_round}
use Rattle.capi.proofs.watching.joshkamber_round_windows.Goals as goal

pub returns : goal.returns
returns c =
    let a = c.args in
    exported_round (window_sheet a.sheet) a.state _ _ c.round-moved.result _ c.round-moved.ensures c.from.ensures
