-- DOCUMENT 01, "THE SHEET": an order's name "as that very part of the caller's text; it is the empty part if .. there is no such order."
-- Here by where all names of a text stand; which names a text has is defined with its reading.
use Rattle.std.specs.Prelude.{◌≡◌, cond, List, ℕ, ◌+◌, ◌≤◌, ◌<◌, leb, length, take, drop}
use Rattle.std.specs.Borrow.{Bor}
use Rattle.numbers.specs.Counting.{at, nth}
use Rattle.model.specs.Limits.{inside, ◌–◌, order_counts}
use Rattle.fields.specs.Names.{NameAt}
use Rattle.fields.specs.declared.NamePlace.{NamePlace}
use Rattle.fields.specs.declared.NamePlaces.{NamePlaces}

-- where a part of a text starts, and how many bytes it has
pub record Span : Type 0 where
  pub start : ℕ
  pub long : ℕ

abbrev pub no_bytes : Span
no_bytes = record { start = 0; long = 0 }

-- `part` is that very part of `text`: it stands there in memory, and has those bytes
pub record IsPart (text part : Bor (List ℕ)) (s : Span) : Type 0 where
  pub place : part.ref_ptr ≡ (text.ref_ptr.0, s.start + text.ref_ptr.1)
  pub bytes : part.now ≡ take s.long (drop s.start text.now)

-- order j's name, the empty part if there is no such order; no sheet has more than 200 orders
unfoldable pub name_at : NamePlaces → ℕ → Span
name_at p j =
    cond (inside (1 – p.count) j) (cond (leb j order_counts.most) (record { start = nth p.start j; long = nth p.length j }) no_bytes) no_bytes

-- a span as a part of a text; the empty part if it does not lie in the text, as every name of the text does
unfoldable pub within : List ℕ → Span → Span
within text s = cond (leb (s.start + s.long) (length text)) s no_bytes

-- as the two numbers that a call returns
abbrev pub place_of : Span → NamePlace
place_of s = record { start = s.start; length = s.long }

-- the places are those of names that lie in the text
pub record NamesLie (text : List ℕ) (p : NamePlaces) : Type 0 where
  pub few : p.count ≤ order_counts.most
  pub names : (j : ℕ) → j < p.count → NameAt text (at p.start j) (at p.length j)
