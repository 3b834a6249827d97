-- DOCUMENT 01, "THE SHEET": "Fields stand in a fixed order, parted by commas, no quoting."
-- A text is the list of its bytes. A position in it counts from 0; past the end stands 0, which no rule below allows.
use Rattle.std.specs.Prelude.{Bool, ◌||◌, List, ℕ, eqb}
use Rattle.std.specs.List.{prefix_len}
use Rattle.numbers.specs.Counting.{at}
use Rattle.model.specs.Limits.{inside, ◌–◌}
use Rattle.fields.specs.declared.Alphabet.{Alphabet}
use Rattle.fields.specs.declared.Alphabet.TheVariants.{Digits, NameBytes}

-- a comma stands here
abbrev pub comma : List ℕ → ℕ → Bool
comma text p = eqb (at text p) 44

-- a number is made of 0–9, a name of "A–Z, 0–9 and hyphen"
abbrev pub allowed_in : Alphabet → ℕ → Bool
allowed_in Digits b = inside (48 – 57) b
allowed_in NameBytes b = inside (48 – 57) b || eqb b 45 || inside (65 – 90) b

-- how many bytes at the front of a list are of an alphabet: the field ends there
unfoldable pub run_of : Alphabet → List ℕ → ℕ
run_of a text = prefix_len (allowed_in a) text
