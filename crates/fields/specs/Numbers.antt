-- DOCUMENT 01, "THE SHEET": "Numbers have 1 to 6 digits and no leading zero except 0 itself."
use Rattle.std.specs.Prelude.{Bool, Option, Some, None, not, ◌&&◌, ◌||◌, cond, List, ℕ, zero, suc, ◌+◌, ◌*◌, ◌-◌, eqb, drop}
use Rattle.numbers.specs.Counting.{at}
use Rattle.model.specs.Limits.{inside, ◌–◌}
use Rattle.fields.specs.Fields.{comma, run_of}
use Rattle.fields.specs.declared.Alphabet.TheVariants.{Digits}
use Rattle.fields.specs.declared.NumberAt.{NumberAt}

-- the first n digits from position p on, in decimal; the digit 0 is byte 48
unfoldable pub decimal_of : List ℕ → ℕ → ℕ → ℕ
decimal_of text p zero = 0
decimal_of text p (suc n) = decimal_of text p n * 10 + (at text (p + n) - 48)

-- n digits from position p on are a number
abbrev pub is_number : List ℕ → ℕ → ℕ → Bool
is_number text p n = inside (1 – 6) n && (eqb n 1 || not (eqb (at text p) 48))

-- the number at position p and the position after it, or none
unfoldable pub number_at : List ℕ → ℕ → Option NumberAt
number_at text p =
    let n = run_of Digits (drop p text) in
    cond (is_number text p n) (Some (record { value = decimal_of text p n; next = p + n })) None

-- a comma, and then a number
unfoldable pub number_field : List ℕ → ℕ → Option NumberAt
number_field text p = cond (comma text p) (number_at text (p + 1)) None
