-- `order_name` meets its contract: the names of a text lie in it. Assumes nothing.
use Rattle.std.proofs.Common.{Result, sym, ap, ◌∙◌, subst, rules}
use Rattle.model.specs.declared.Refusal.{Refusal}
use Rattle.model.specs.declared.Sheet.{Sheet}
use Rattle.fields.specs.NamePlaces.{IsPart, within}
use Rattle.sheet.specs.OrderNames.{name_read, name_in}
use Rattle.sheet.specs.declared.Reading.{Reading}
use Rattle.sheet.proofs.NameLaws.{name_there}
use Rattle.sheet.proofs.RefusedLaws.{refused_name}
use Rattle.sheet.proofs.order_name.Goals as goal

pub returns-in-Ok : goal.returns-in-Ok
unfolding name_in
returns-in-Ok c =
    let a = c.args in
    let name = ap (λ (x : Result (Reading Sheet) Refusal). within a.text.now (name_read x a.order)) c.in-Ok.ensures.equal in
    subst (IsPart a.text c.name_part.result) (name ∙ name_there a.form a.text.now a.order) c.name_part.ensures

pub returns-in-Err : goal.returns-in-Err
returns-in-Err c =
    let a = c.args in
    rw (refused_name a.form a.text.now _ a.order (sym c.in-Err.ensures.equal)) (record { place = search rules; bytes = search rules })
