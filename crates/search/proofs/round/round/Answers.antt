-- `search::round::round` meets its contract: the round from the sheet alone is the ordinary one. Assumes nothing.
use Rattle.std.proofs.Common.{sym, subst}
use Rattle.model.specs.Memory.{sheet_of}
use Rattle.rounds.specs.SettingOut.{Sets}
use Rattle.rounds.proofs.AimLaws.{ordinary_sets}
use Rattle.search.proofs.round.round.Goals as goal

pub round_from-requires-clause-sets : goal.round_from-requires-clause-sets
round_from-requires-clause-sets c =
    let s = sheet_of c.args.sheet.columns in
    subst (Sets s) (sym c.ordinary.ensures) (ordinary_sets s c.args.sheet.admitted)
