-- A NAME THAT IS GIVEN BACK LIES IN THE TEXT AND HAS AT MOST 12 BYTES. Assumes nothing.
use Rattle.std.specs.Prelude.{◌≡◌, refl, Result, Ok, Err, List, ℕ}
use Rattle.std.proofs.Common.{arith}
use Rattle.model.specs.declared.Form.{Form}
use Rattle.fields.specs.NamePlaces.{NamesLie, no_bytes, within}
use Rattle.fields.proofs.NameLaws.{name_within, within_lies}
use Rattle.sheet.specs.Sheets.{reading, names_from}
use Rattle.sheet.specs.OrderNames.{name_read, name_in}
use Rattle.sheet.proofs.TextLaws.{read_holds}
use Rattle.model.specs.declared.Refusal.{Refusal}
use Rattle.model.specs.declared.Sheet.{Sheet}
use Rattle.sheet.specs.declared.Reading.{Reading}

pub names_lie : (form : Form) (text : List ℕ) (r : Reading Sheet) → reading form text ≡ Ok r → NamesLie text r.names
unfolding names_from
names_lie form text = read_holds form text (λ r. NamesLie text r.names) (λ s good named ended. record { few = good.orders.few; names = named })

-- so what stands at the place of a name is that name
pub name_there : (form : Form) (text : List ℕ) (j : ℕ) → within text (name_in form text j) ≡ name_in form text j
unfolding name_in
name_there form text j = go (reading form text) refl
  where
    go : (x : Result (Reading Sheet) Refusal) → reading form text ≡ x → within text (name_read x j) ≡ name_read x j
    go (Ok r) e = name_within text r.names (names_lie form text r e) j
    go (Err q) e = within_lies text no_bytes (omega arith)
