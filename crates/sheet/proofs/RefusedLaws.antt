-- A REFUSED TEXT HAS EMPTY NAMES. Assumes nothing.
use Rattle.std.specs.Prelude.{◌≡◌, Err, List, ℕ}
use Rattle.model.specs.declared.Refusal.{Refusal}
use Rattle.model.specs.declared.Form.{Form}
use Rattle.sheet.specs.Sheets.{reading}
use Rattle.sheet.specs.OrderNames.{name_in}

pub refused_name : (form : Form) (text : List ℕ) (r : Refusal) (j : ℕ) → reading form text ≡ Err r → name_in form text j ≡ record { start = 0; long = 0 }
unfolding name_in
refused_name form text r j e = rw e
