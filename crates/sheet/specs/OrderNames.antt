-- DOCUMENT 01, "THE SHEET": "A further call per form gives an order's name back as that very part of the caller's text; it is the empty part
-- if the text is refused or there is no such order." A refused text has no orders.
use Rattle.std.specs.Prelude.{Result, Ok, Err, List, ℕ}
use Rattle.model.specs.declared.Form.{Form}
use Rattle.fields.specs.NamePlaces.{Span, no_bytes, name_at}
use Rattle.sheet.specs.Sheets.{reading}
use Rattle.model.specs.declared.Refusal.{Refusal}
use Rattle.model.specs.declared.Sheet.{Sheet}
use Rattle.sheet.specs.declared.Reading.{Reading}

abbrev pub name_read : Result (Reading Sheet) Refusal → ℕ → Span
name_read (Ok r) j = name_at r.names j
name_read (Err _) j = no_bytes

unfoldable pub name_in : Form → List ℕ → ℕ → Span
unfolding name_at reading
name_in form text j = name_read (reading form text) j
