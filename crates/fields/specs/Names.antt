-- DOCUMENT 01, "THE SHEET": "A name is 1 to 12 of A–Z, 0–9 and hyphen, and may repeat."
use Rattle.std.specs.Prelude.{Option, Some, None, cond, List, ℕ, ◌+◌, ◌≤◌, length, drop}
use Rattle.model.specs.Limits.{Inside, inside, ◌–◌}
use Rattle.fields.specs.Fields.{comma, run_of}
use Rattle.fields.specs.declared.Alphabet.TheVariants.{NameBytes}
use Rattle.fields.specs.declared.NamePlace.{NamePlace}

-- a comma, and then a name: where it starts and how long it is, or none
unfoldable pub name_field : List ℕ → ℕ → Option NamePlace
name_field text p =
    let n = run_of NameBytes (drop (p + 1) text) in
    cond (comma text p) (cond (inside (1 – 12) n) (Some (record { start = p + 1; length = n })) None) None

-- a name lies in the text: it ends there, and has 1 to 12 bytes
pub record NameAt (text : List ℕ) (start long : ℕ) : Type 0 where
  pub lies : start + long ≤ length text
  pub size : Inside (1 – 12) long
