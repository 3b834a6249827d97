-- `order_name_place` meets its contract: it is the place of that name among all. Assumes nothing.
use Rattle.std.proofs.Common.{Result, sym, ap, ◌∙◌, rules}
use Rattle.model.specs.declared.Refusal.{Refusal}
use Rattle.model.specs.declared.Sheet.{Sheet}
use Rattle.fields.specs.NamePlaces.{place_of}
use Rattle.sheet.specs.OrderNames.{name_read, name_in}
use Rattle.sheet.specs.declared.Reading.{Reading}
use Rattle.sheet.proofs.RefusedLaws.{refused_name}
use Rattle.sheet.proofs.order_name_place.Goals as goal

pub returns-in-Ok : goal.returns-in-Ok
unfolding name_in
returns-in-Ok c =
    let a = c.args in
    c.name_place.ensures ∙ ap (λ (x : Result (Reading Sheet) Refusal). place_of (name_read x a.order)) c.in-Ok.ensures.equal

pub returns-in-Err : goal.returns-in-Err
returns-in-Err c =
    let a = c.args in
    rw (refused_name a.form a.text.now _ a.order (sym c.in-Err.ensures.equal)) (search rules)
