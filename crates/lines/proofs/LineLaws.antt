-- A line that is read ends after it starts, and an order's name lies in the text; one that is not is refused with its number. Assumes nothing.
use Rattle.std.proofs.Math.Path.{◌≡◌}
use Rattle.std.specs.Prelude.{refl, ◌||◌, List, Option, Some, None, Result, Ok, Err, ◌⊎◌, length, drop, set, replicate}
use Rattle.std.proofs.Common.{◌++◌, subst, inl, inr}
use Rattle.std.proofs.lemmas.List.{set-append_left}
use Rattle.std.proofs.lemmas.Bool.Decides.{nat_tests}
use Rattle.std.proofs.Math.Bool.{false}
use Prim.Native.Nat.{ℕ, zero, suc, ◌+◌, ◌≤◌, ◌<◌}
use native.Mathlib.Omega.{arith}
use Rattle.numbers.specs.Counting.{at}
use Rattle.model.specs.Limits.{inside, ◌–◌}
use Rattle.model.specs.declared.Refusal.{Refusal}
use Rattle.model.specs.declared.Refusal.TheVariants.{Malformed}
use Rattle.fields.specs.Fields.{comma, run_of}
use Rattle.fields.specs.Numbers.{is_number, number_at, number_field}
use Rattle.fields.specs.Names.{name_field, NameAt}
use Rattle.lines.specs.Lines.{number, name, counted, line_ends, is, number_count, record_of, numbers_from, number_fields, line_at}
use Rattle.fields.proofs.FieldLaws.{by_test, run_inside, inside_means}
use Rattle.fields.specs.declared.Alphabet.TheVariants.{Digits, NameBytes}
use Rattle.fields.specs.declared.NumberAt.{NumberAt}
use Rattle.fields.specs.declared.NamePlace.{NamePlace}
use Rattle.lines.specs.declared.Line.{Line}
use Rattle.lines.specs.declared.Line.TheVariants.{Gap, Window, Train, FixedTrain, Order}
use Rattle.lines.specs.declared.LineAt.{LineAt}

-- ---- fields

abbrev Past : ℕ → Option NumberAt → Type 0
Past p (Some n) = p < n.next
Past p None = Unit {0}

number_past : (text : List ℕ) (p : ℕ) → Past p (number_field text p)
unfolding number_field number_at
number_past text p =
    by_test (Past p) (comma text p)
    (λ e. by_test (Past p) (is_number text (p + 1) (run_of Digits (drop (p + 1) text))) (λ f. omega arith) (λ f. tt))
    (λ e. tt)

abbrev NameInside : List ℕ → ℕ → Option NamePlace → Type 0
NameInside text p (Some n) = (p < n.start) × NameAt text n.start n.length
NameInside text p None = Unit {0}

name_inside : (text : List ℕ) (p : ℕ) → NameInside text p (name_field text p)
unfolding name_field
name_inside text p =
    let n = run_of NameBytes (drop (p + 1) text) in
    by_test (NameInside text p) (comma text p)
    (λ e. by_test (NameInside text p) (inside (1 – 12) n)
    (λ f. let size = inside_means (1 – 12) n f in (omega arith, record { lies = run_inside NameBytes text (p + 1) (omega (arith, size.0)); size = size }))
    (λ f. tt))
    (λ e. tt)

-- a name that was read lies in the text
pub name_found : (text : List ℕ) (p : ℕ) (n : NamePlace) → name_field text p ≡ Some n → n.start + n.length ≤ length text
name_found text p n e = (subst (NameInside text p) e (name_inside text p)).1.lies

-- ---- lines

abbrev pub Named : List ℕ → Line → Type 0
Named text (Gap g) = Unit {0}
Named text (Window w) = Unit {0}
Named text (Train t) = Unit {0}
Named text (FixedTrain t) = Unit {0}
Named text (Order o) = NameAt text o.name_start o.name_length

-- what is read at position p on line number `line`; a line that is not read is refused with 1 and its number
abbrev pub Sound : List ℕ → (p line : ℕ) → Result LineAt Refusal → Type 0
Sound text p line (Ok l) = (p < l.next) × Named text l.line
Sound text p line (Err r) = r ≡ Malformed line

-- no line has more than three numbers
abbrev Few : Option ℕ → Type 0
Few (Some n) = n ≤ 3
Few None = Unit {0}

few_counted : (letter : ℕ) → Few (number_count letter)
unfolding number_count
few_counted letter =
    by_test Few (is letter "G") (λ e. omega arith) (λ e.
    by_test Few (is letter "W" || is letter "T") (λ e. omega arith) (λ e.
    by_test Few (is letter "X" || is letter "O") (λ e. omega arith) (λ e. tt)))

pub few_numbers : (letter n : ℕ) → number_count letter ≡ Some n → n ≤ 3
few_numbers letter n e = subst Few e (few_counted letter)

-- whether a letter has numbers, and how many at most
pub ruleset count_laws = (nat_tests, few_numbers)

-- a number that was read is written to its place among the values, and the fields that are left stand behind it
pub one_number : (text : List ℕ) (line : ℕ) (made : List ℕ → Line) (left n p : ℕ) (values rest : List ℕ) (f : NumberAt)
    → number_field text p ≡ Some f → n < length values
    → numbers_from text line made (suc left) n p (values ++ rest) ≡ numbers_from text line made left (n + 1) f.next (set values n f.value ++ rest)
unfolding numbers_from
one_number text line made left n p values rest f e l = rw (e, set-append_left values rest n f.value l)

module _ (text : List ℕ) (p line : ℕ) where
  -- number fields that stand at or after p
  numbers_sound : (made : List ℕ → Line) → ((values : List ℕ) → Named text (made values)) → (left n q : ℕ) → p ≤ q
      → (values : List ℕ) → Sound text p line (numbers_from text line made left n q values)
  unfolding numbers_from
  numbers_sound made named zero n q l values =
      by_test (Sound text p line) (line_ends text q) (λ e. (omega arith, named values)) (λ e. refl)
  numbers_sound made named (suc left) n q l values =
      go (number_field text q) (number_past text q) (λ value next m. numbers_sound made named left (n + 1) next m (set values n value))
    where
      rest : ℕ → ℕ → Result LineAt Refusal
      rest value next = numbers_from text line made left (n + 1) next (set values n value)

      go : (x : Option NumberAt) → Past q x → ((value next : ℕ) → p ≤ next → Sound text p line (rest value next))
          → Sound text p line (number x (Err (Malformed line)) rest)
      go (Some n) h more = more n.value n.next (omega arith)
      go None h more = refl

  -- the record of a letter that some kind has: an order's name lies in the text, and no other record has a name
  record_named : (letter start long n : ℕ) (values : List ℕ) → NameAt text start long ⊎ (is letter "O" ≡ false)
      → number_count letter ≡ Some n → Named text (record_of letter start long values)
  unfolding record_of number_count
  record_named letter start long n values named some =
      by_test (Named text) (is letter "G") (λ e. tt) (λ g.
      by_test (Named text) (is letter "W") (λ e. tt) (λ w.
      by_test (Named text) (is letter "T") (λ e. tt) (λ t.
      by_test (Named text) (is letter "X") (λ e. tt) (λ x. go (λ o. rw (g, w, t, x, o) at some) named))))
    where
      go : (is letter "O" ≡ false → None ≡ Some n) → NameAt text start long ⊎ (is letter "O" ≡ false) → NameAt text start long
      go f (inl h) = h
      go f (inr o) = let none : None ≡ Some n = f o in absurd cc

  fields_sound : (letter start long : ℕ) → p ≤ start + long → NameAt text start long ⊎ (is letter "O" ≡ false)
      → Sound text p line (number_fields text line letter start long)
  unfolding number_fields
  fields_sound letter start long l named = go (number_count letter) refl
    where
      rest : ℕ → Result LineAt Refusal
      rest count = numbers_from text line (record_of letter start long) count 0 (start + long) (replicate 3 0)

      go : (x : Option ℕ) → number_count letter ≡ x → Sound text p line (counted x (Err (Malformed line)) rest)
      go (Some n) some =
          numbers_sound (record_of letter start long) (λ values. record_named letter start long n values named some) n 0 (start + long) l (replicate 3 0)
      go None none = refl

-- A LINE THAT IS READ ENDS AFTER IT STARTS, AND AN ORDER'S NAME LIES IN THE TEXT
pub line_sound : (text : List ℕ) (p line : ℕ) → Sound text p line (line_at text p line)
unfolding line_at
line_sound text p line =
    by_test (Sound text p line) (is (at text p) "O") (λ e. go (name_field text (p + 1)) (name_inside text (p + 1)))
    (λ e. fields_sound text p line (at text p) (p + 1) 0 (omega arith) (inr e))
  where
    go : (x : Option NamePlace) → NameInside text (p + 1) x → Sound text p line (name x (Err (Malformed line)) (number_fields text line (at text p)))
    go (Some n) h = fields_sound text p line (at text p) n.start n.length (omega arith) (inl h.1)
    go None h = refl
