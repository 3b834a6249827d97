-- A NAME BY ITS PLACE LIES IN THE TEXT AND HAS AT MOST 12 BYTES. Assumes nothing.
use Rattle.std.specs.Prelude.{◌≡◌, List, ℕ, ◌+◌, ◌-◌, ◌≤◌, ◌<◌, leb, length}
use Rattle.std.proofs.Common.{arith, le-leb}
use Rattle.std.proofs.lemmas.Bool.{lt-leb}
use Rattle.model.specs.Limits.{inside, ◌–◌, order_counts}
use Rattle.fields.proofs.FieldLaws.{by_test, inside_means}
use Rattle.fields.specs.NamePlaces.{Span, NamesLie, no_bytes, name_at, within}
use Rattle.fields.specs.declared.NamePlaces.{NamePlaces}

abbrev pub Short : List ℕ → Span → Type 0
Short text s = (s.start + s.long ≤ length text) × (s.long ≤ 12)

pub short_name : (text : List ℕ) (p : NamePlaces) → NamesLie text p → (j : ℕ) → Short text (name_at p j)
unfolding name_at
short_name text p h j =
    by_test (Short text) (inside (1 – p.count) j)
    (λ e.
    let there = inside_means (1 – p.count) j e in
    let name = h.names (j - 1) (omega (arith, there.0, there.1)) in
    by_test (Short text) (leb j order_counts.most) (λ u. (name.lies, name.size.1)) (λ u. (omega arith, omega arith)))
    (λ e. (omega arith, omega arith))

-- ---- a span as a part of a text

pub within_lies : (text : List ℕ) (s : Span) → s.start + s.long ≤ length text → within text s ≡ s
unfolding within
within_lies text s h = rw (le-leb (s.start + s.long) (length text) h)

pub within_not : (text : List ℕ) (s : Span) → length text < s.start + s.long → within text s ≡ no_bytes
unfolding within
within_not text s h = rw (lt-leb (s.start + s.long) (length text) h)

-- the names of a text lie in it
pub name_within : (text : List ℕ) (p : NamePlaces) → NamesLie text p → (j : ℕ) → within text (name_at p j) ≡ name_at p j
name_within text p h j = within_lies text (name_at p j) (short_name text p h j).0
