-- The first test that fails decides, else the rounds behind the gone trains.
use Rattle.std.proofs.Common.{refl}
use Rattle.std.proofs.lemmas.Result.{err_from_is_err_and}
use Rattle.model.specs.Memory.{sheet_of}
use Rattle.rounds.proofs.AreaLaws.{decides_list_room}
use Rattle.room.proofs.CallLaws.{has_room}
use Rattle.gone.specs.GonePart.{gone_part}
use Rattle.replan.proofs.ReplanningLaws.{list_refused, list_gone, list_rounds}
use Rattle.replan.proofs.relist.Goals as goal

pub returns-in_err-sheet : goal.returns-in_err-sheet
returns-in_err-sheet c rows e =
    let a = c.args in
    let p = err_from_is_err_and c.from_residual.result c.from_residual.ensures.1 in
    rw (p.1, p.2) (list_refused a.sheet (gone_part a.departures.now rows a.minute) a.pairs.now _ c.in_err-sheet.ensures.tests _ refl)

pub returns-in_err-outset : goal.returns-in_err-outset
returns-in_err-outset c rows e =
    let a = c.args in
    let m = c.in_ok-sheet.sheet.columns in
    let p = err_from_is_err_and c.from_residual-in_err-outset.result c.from_residual-in_err-outset.ensures.1 in
    rw (← c.in_ok-sheet.ensures.same, p.1, p.2)
    (list_gone m (gone_part a.departures.now rows a.minute) a.pairs.now _ (rw (← c.in_ok-sheet.ensures.same) at c.in_ok-sheet.ensures.tests) refl
    c.set_out.result (c.set_out.ensures.is rows e) _ c.in_err-outset.was)

pub list_from-requires-clause-room : goal.list_from-requires-clause-room
list_from-requires-clause-room c =
    let s = sheet_of c.in_ok-sheet.sheet.columns in
    has_room s (decides_list_room s c.args.pairs.now) _ (rw (← c.in_ok-sheet.ensures.same) at c.in_ok-sheet.ensures.tests) refl

pub returns : goal.returns
returns c rows e =
    let a = c.args in
    let m = c.in_ok-sheet.sheet.columns in
    rw (← c.in_ok-sheet.ensures.same)
    (list_rounds m (gone_part a.departures.now rows a.minute) a.pairs.now _ (rw (← c.in_ok-sheet.ensures.same) at c.in_ok-sheet.ensures.tests) refl
    c.set_out.result (c.set_out.ensures.is rows e) _ c.in_ok-outset.was _ _ c.list_from.ensures)
