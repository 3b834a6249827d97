-- `listing::list` meets its contract: the first test that fails decides, else the rounds from the sheet alone. Assumes nothing.
use Rattle.std.proofs.Common.{refl, sym, ap, subst}
use Rattle.std.proofs.lemmas.Result.{err_from_is_err_and}
use Rattle.model.specs.Memory.{sheet_of}
use Rattle.rounds.proofs.AreaLaws.{decides_list_room}
use Rattle.rounds.specs.SettingOut.{Sets}
use Rattle.rounds.proofs.AimLaws.{ordinary_sets}
use Rattle.rounds.specs.Answers.{list_from}
use Rattle.planner.proofs.RunningLaws.{told_as}
use Rattle.planner.proofs.ListingLaws.{told_refused, told_rounds, listing_call}
use Rattle.room.proofs.CallLaws.{has_room}
use Rattle.listing.proofs.list.Goals as goal

pub returns-in_err-sheet : goal.returns-in_err-sheet
returns-in_err-sheet g c =
    let s = sheet_of c.to_sheet.result in
    let p = err_from_is_err_and c.from_residual.result c.from_residual.ensures.1 in
    let found = c.args.pairs.now in
    rw (← c.to_sheet.ensures, p.1, p.2) (listing_call s _ found found (told_refused s found _ c.in_err-sheet.ensures.tests _ refl))

pub list_from-requires-clause-room : goal.list_from-requires-clause-room
list_from-requires-clause-room g c =
    let s = sheet_of c.in_ok-sheet.sheet.columns in
    has_room s (decides_list_room s c.args.pairs.now) _ (rw (← c.in_ok-sheet.ensures.same) at c.in_ok-sheet.ensures.tests) refl

pub list_from-requires-clause-sets : goal.list_from-requires-clause-sets
list_from-requires-clause-sets g c =
    let s = sheet_of c.in_ok-sheet.sheet.columns in
    subst (Sets s) (sym c.ordinary.ensures) (ordinary_sets s c.in_ok-sheet.sheet.admitted)

pub returns : goal.returns
returns g c =
    let s = sheet_of c.in_ok-sheet.sheet.columns in
    rw (← c.to_sheet.ensures, ← c.in_ok-sheet.ensures.same)
    (listing_call s _ _ c.args.pairs.now
    (told_rounds s c.args.pairs.now _ (rw (← c.in_ok-sheet.ensures.same) at c.in_ok-sheet.ensures.tests) refl _ _
    (told_as (ap (list_from s) c.ordinary.ensures) c.list_from.ensures)))
