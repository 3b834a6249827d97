-- `search::start::start_search` meets its contract: the start from the sheet alone is the ordinary one. Assumes nothing.
use mathlib.Core.Path.{subst}
use Rattle.model.specs.Memory.{sheet_of}
use Rattle.rounds.specs.Outset.{Outset}
use Rattle.rounds.specs.Rounds.{start_from}
use Rattle.search.specs.Shows.{ShowsFrom}
use Rattle.search.proofs.start.start_search.Goals as goal

pub returns : goal.returns
returns c =
    let s = sheet_of c.args.sheet.columns in
    subst (λ (o : Outset). ShowsFrom s o c.start_from.result (start_from o)) c.ordinary.ensures
    (c.start_from.ensures s c.args.sheet.admitted.few)
