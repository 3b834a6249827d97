-- `checker::check_gathered` meets its contract: the first of the tests of listing that fails, else 12 or 13, else the pair beside the list that `list` leaves.
-- Assumes nothing.
use Rattle.std.proofs.Common.{refl, sym, ◌∙◌}
use Rattle.std.proofs.lemmas.Result.{err_from_is_err_and}
use Rattle.model.specs.Memory.{sheet_of}
use Rattle.checker.proofs.JudgingLaws.{told_refused, told_broken, told_kept, in_area}
use Rattle.checker.proofs.CheckingLaws.{checking_call}
use Rattle.checker.proofs.check_gathered.Goals as goal

pub returns-in_err-sheet : goal.returns-in_err-sheet
returns-in_err-sheet g c rows e =
    let a = c.args in
    let s = sheet_of c.to_sheet.result in
    let p = err_from_is_err_and c.from_residual.result c.from_residual.ensures.1 in
    rw (← c.to_sheet.ensures, p.1, p.2)
    (checking_call s a.departures.now rows _ a.pairs.now a.pairs.now
    (told_refused s a.departures.now rows a.pairs.now _ c.in_err-sheet.ensures.tests _ refl))

pub returns-in_err-pair : goal.returns-in_err-pair
returns-in_err-pair g c rows e =
    let a = c.args in
    let s = sheet_of c.in_ok-sheet.sheet.columns in
    let p = err_from_is_err_and c.from_residual-in_err-pair.result c.from_residual-in_err-pair.ensures.1 in
    rw (← c.to_sheet.ensures, ← c.in_ok-sheet.ensures.same, p.1, p.2)
    (checking_call s a.departures.now rows _ a.pairs.now a.pairs.now
    (told_broken s a.departures.now rows a.pairs.now _ (rw (← c.in_ok-sheet.ensures.same) at c.in_ok-sheet.ensures.tests) refl _
    (sym (c.judge.ensures rows e) ∙ c.in_err-pair.was)))

pub beside-requires : goal.beside-requires
beside-requires g c = in_area (sheet_of c.in_ok-sheet.sheet.columns) c.args.pairs.now _ _ c.list-reply.ensures.equal

pub returns : goal.returns
returns g c rows e =
    let a = c.args in
    let s = sheet_of c.in_ok-sheet.sheet.columns in
    let l = c.list-reply in
    rw (← c.to_sheet.ensures, ← c.in_ok-sheet.ensures.same)
    (checking_call s a.departures.now rows _ _ a.pairs.now
    (told_kept s a.departures.now rows a.pairs.now _ (rw (← c.in_ok-sheet.ensures.same) at c.in_ok-sheet.ensures.tests) refl
    (record { last = c.in_ok-pair.pair.last; worst = c.in_ok-pair.pair.worst }) (sym (c.judge.ensures rows e) ∙ c.in_ok-pair.was) _ _ l.ensures.equal _
    c.beside.ensures))
