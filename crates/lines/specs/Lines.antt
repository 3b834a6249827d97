-- DOCUMENT 01, "THE SHEET": "A line is one of several kinds, each with its own record: `G,gap`, `W,from,to`, `T,capacity,running`,
-- `O,name,release,due,weight`; in the timetable form `X,capacity,departure,arrival` and `O`." "Lines end with byte 10, the last one too."
-- Each is read at a position of the text: its record and the position after it, or refusal 1 with the line's number.
use Rattle.std.specs.Prelude.{Bool, Option, Some, None, Result, Ok, Err, ◌||◌, cond, List, ℕ, zero, suc, ◌+◌, eqb, set, replicate}
use Prim.Native.Char.{Char, code}
use Rattle.numbers.specs.Counting.{at}
use Rattle.model.specs.declared.Refusal.{Refusal}
use Rattle.model.specs.declared.Refusal.TheVariants.{Malformed}
use Rattle.fields.specs.Numbers.{number_field}
use Rattle.fields.specs.Names.{name_field}
use Rattle.fields.specs.declared.NumberAt.{NumberAt}
use Rattle.fields.specs.declared.NamePlace.{NamePlace}
use Rattle.lines.specs.declared.Line.{Line}
use Rattle.lines.specs.declared.Line.TheVariants.{Gap, Window, Train, FixedTrain, Order}
use Rattle.lines.specs.declared.LineAt.{LineAt}

-- "a field that isn't a number of this kind ends the line's reading with refusal 1"
abbrev pub number : {A : Type 0} → Option NumberAt → (refused : A) → (ℕ → ℕ → A) → A
number (Some n) refused rest = rest n.value n.next
number None refused rest = refused

abbrev pub name : {A : Type 0} → Option NamePlace → (refused : A) → (ℕ → ℕ → A) → A
name (Some n) refused rest = rest n.start n.length
name None refused rest = refused

abbrev pub counted : {A : Type 0} → Option ℕ → (refused : A) → (ℕ → A) → A
counted (Some n) refused rest = rest n
counted None refused rest = refused

-- a line ends here
abbrev pub line_ends : List ℕ → ℕ → Bool
line_ends text p = eqb (at text p) 10

-- a byte is this letter
abbrev pub is : ℕ → Char → Bool
is byte letter = eqb byte (code letter)

-- how many numbers a line with this letter has; none if no kind of line has it
unfoldable pub number_count : ℕ → Option ℕ
number_count letter =
    cond (is letter "G") (Some 1) (cond (is letter "W" || is letter "T") (Some 2) (cond (is letter "X" || is letter "O") (Some 3) None))

-- the record of a line with this letter, its numbers as they stand; an order's name starts at `start` and has `long` bytes
unfoldable pub record_of : (letter start long : ℕ) → List ℕ → Line
record_of letter start long values =
    cond (is letter "G") (Gap (record { gap = at values 0 }))
    (cond (is letter "W") (Window (record { from = at values 0; to = at values 1 }))
    (cond (is letter "T") (Train (record { capacity = at values 0; running = at values 1 }))
    (cond (is letter "X") (FixedTrain (record { capacity = at values 0; departure = at values 1; arrival = at values 2 }))
    (Order (record { name_start = start; name_length = long; release = at values 0; due = at values 1; weight = at values 2 })))))

-- `left` number fields more, from position p on and behind n others, and then the line's end; the record is made of the values
unfoldable pub numbers_from : List ℕ → (line : ℕ) → (List ℕ → Line) → (left n p : ℕ) → List ℕ → Result LineAt Refusal
numbers_from text line made zero n p values = cond (line_ends text p) (Ok (record { line = made values; next = p + 1 })) (Err (Malformed line))
numbers_from text line made (suc left) n p values =
    number (number_field text p) (Err (Malformed line)) (λ value next. numbers_from text line made left (n + 1) next (set values n value))

-- the line with this letter whose number fields stand behind this name; only an order's name has bytes
unfoldable pub number_fields : List ℕ → (line letter start long : ℕ) → Result LineAt Refusal
number_fields text line letter start long =
    counted (number_count letter) (Err (Malformed line))
    (λ count. numbers_from text line (record_of letter start long) count 0 (start + long) (replicate 3 0))

-- line number `line`, which starts at position p: its letter, an order's name, its numbers, and its end
unfoldable pub line_at : List ℕ → (p line : ℕ) → Result LineAt Refusal
line_at text p line =
    cond (is (at text p) "O") (name (name_field text (p + 1)) (Err (Malformed line)) (number_fields text line (at text p)))
    (number_fields text line (at text p) (p + 1) 0)
