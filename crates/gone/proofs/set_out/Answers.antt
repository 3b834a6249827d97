-- 8 for want of places, or the columns.
use Rattle.std.proofs.Common.{sym, refl, rules}
use Rattle.gone.proofs.ReadyLaws.{set_few, set_granted}
use Rattle.gone.proofs.set_out.Goals as goal

pub returns-then-not-has_places-clause-is : goal.returns-then-not-has_places-clause-is
returns-then-not-has_places-clause-is c rows e =
    let a = c.args in
    set_few a.sheet.columns c.args.sheet.admitted a.departures.now rows a.minute a.given e (c.if-not-went_well.ensures.is rows e) c.column_of-departure.result
    c.column_of-departure.ensures c.behind-outset.result (search rules) c.behind-outset.ensures _ (sym c.if-not-has_places.ensures) refl

pub returns-clause-is : goal.returns-clause-is
returns-clause-is c rows e =
    let a = c.args in
    set_granted a.sheet.columns c.args.sheet.admitted a.departures.now rows a.minute a.given e (c.if-not-went_well.ensures.is rows e)
    c.column_of-departure.result
    c.column_of-departure.ensures c.behind-outset.result (search rules) c.behind-outset.ensures _ (sym c.if-not-has_places.ensures) refl

pub returns-clause-sets : goal.returns-clause-sets
returns-clause-sets c =
    let a = c.args in
    let gathered = c.if-not-went_well.ensures.gathered refl in
    (set_granted a.sheet.columns c.args.sheet.admitted a.departures.now gathered.0 a.minute a.given gathered.1 (c.if-not-went_well.ensures.is
    gathered.0 gathered.1)
    c.column_of-departure.result c.column_of-departure.ensures c.behind-outset.result (search rules) c.behind-outset.ensures _
    (sym c.if-not-has_places.ensures) refl).sets
