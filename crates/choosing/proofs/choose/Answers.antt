-- `choosing::choose` meets its contract: the first test that fails decides, else the rounds from the sheet alone. Assumes nothing.
use Rattle.std.proofs.Common.{refl, sym, ap, subst}
use Rattle.std.proofs.lemmas.Result.{err_from_is_err_and}
use Rattle.model.specs.Memory.{sheet_of}
use Rattle.rounds.specs.Outset.{Outset}
use Rattle.rounds.proofs.AreaLaws.{decides_plan_room}
use Rattle.rounds.specs.SettingOut.{Sets}
use Rattle.rounds.proofs.AimLaws.{ordinary_sets}
use Rattle.rounds.specs.Answers.{choose_from}
use Rattle.rounds.specs.Told.{areas}
use Rattle.planner.proofs.RunningLaws.{told_as}
use Rattle.planner.proofs.ChoosingLaws.{told_refused, told_rounds, choosing_call}
use Rattle.room.proofs.CallLaws.{has_room}
use Rattle.choosing.proofs.choose.Goals as goal

pub returns-in_err-sheet : goal.returns-in_err-sheet
returns-in_err-sheet g c =
    let s = sheet_of c.to_sheet.result in
    let p = err_from_is_err_and c.from_residual.result c.from_residual.ensures.1 in
    let found = areas c.args.train_of_order.now c.args.times.now in
    rw (← c.to_sheet.ensures, p.1, p.2) (choosing_call s c.args.wish _ found found (told_refused s c.args.wish found _ c.in_err-sheet.ensures.tests _ refl))

pub choose_from-requires-clause-room : goal.choose_from-requires-clause-room
choose_from-requires-clause-room g c =
    let s = sheet_of c.in_ok-sheet.sheet.columns in
    has_room s (decides_plan_room s (areas c.args.train_of_order.now c.args.times.now)) _
    (rw (← c.in_ok-sheet.ensures.same) at c.in_ok-sheet.ensures.tests) refl

pub choose_from-requires-clause-sets : goal.choose_from-requires-clause-sets
choose_from-requires-clause-sets g c =
    let s = sheet_of c.in_ok-sheet.sheet.columns in
    subst (Sets s) (sym c.ordinary.ensures) (ordinary_sets s c.in_ok-sheet.sheet.admitted)

pub returns : goal.returns
returns g c =
    let s = sheet_of c.in_ok-sheet.sheet.columns in
    let found = areas c.args.train_of_order.now c.args.times.now in
    rw (← c.to_sheet.ensures, ← c.in_ok-sheet.ensures.same)
    (choosing_call s c.args.wish _ _ found
    (told_rounds s c.args.wish found _ (rw (← c.in_ok-sheet.ensures.same) at c.in_ok-sheet.ensures.tests) refl _ _
    (told_as (ap (λ (o : Outset). choose_from s o c.args.wish) c.ordinary.ensures) c.choose_from.ensures)))
