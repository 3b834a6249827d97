-- The lines of a text of either form are good, and its names lie in it. Assumes nothing.
use Rattle.std.proofs.Common.{sym, ap, subst, arith}
use Rattle.std.specs.Prelude.{◌≡◌, refl, Ok, Err, Bool, List, ℕ}
use Rattle.model.specs.declared.Form.{Form}
use Rattle.lines.proofs.LineLaws.{Named, Sound, line_sound}
use Rattle.rows.proofs.FaultLaws.{NoFault}
use Rattle.rows.specs.OrderLines.{no_orders}
use Rattle.rows.proofs.OrderLaws.{NamesIn, names_more}
use Rattle.gather.specs.Tests.{tests_of}
use Rattle.gather.specs.SheetLines.{no_lines, with_line}
use Rattle.gather.proofs.SheetLinesLaws.{Good, no_lines_good, no_line_fault, lines_more}
use Rattle.model.specs.declared.Refusal.{Refusal}
use Rattle.model.specs.declared.Sheet.{Sheet}
use Rattle.gather.specs.Tests.{end_fault}
use Rattle.sheet.specs.Reading.{SheetText, read_from}
use Rattle.sheet.specs.Sheets.{sheet_from, names_from, reading_of, reading_as, reading}
use Rattle.sheet.specs.declared.Reading.{Reading}
use Rattle.sheet.proofs.ReadingLaws.{Whole, reading_keeps}
use Rattle.lines.specs.declared.Line.{Line}
use Rattle.lines.specs.declared.Line.TheVariants as L
use Rattle.gather.specs.declared.SheetLines.{SheetLines}

names_kept : (form : Form) (text : List ℕ) (late : Bool) (s : SheetLines) (l : Line) → NoFault (tests_of late s l) → Good form s → Named text l
    → NamesIn text s.orders → NamesIn text (with_line s l).orders
unfolding with_line
names_kept form text late s (L.Gap g) e h named n = n
names_kept form text late s (L.Window w) e h named n = n
names_kept form text late s (L.Train t) e h named n = n
names_kept form text late s (L.FixedTrain t) e h named n = n
names_kept form text late s (L.Order o) e h named n = names_more late s.orders o e text h.orders named n

-- THE LINES OF A TEXT ARE GOOD, ITS NAMES LIE IN IT, AND ONE THAT IS READ HAS NO FAULT AT ITS END
pub text_good : (form : Form) (text : List ℕ) (p : ℕ) → Whole form (λ s. Good form s × NamesIn text s.orders) (read_from form text p)
unfolding no_lines no_orders
text_good form text p =
    reading_keeps form (λ s. Good form s × NamesIn text s.orders) text (no_lines_good form, λ j l. absurd (omega arith))
    (λ p line s l e f h.
    let named = (subst (Sound text p line) e (line_sound text p line)).1 in
    (lines_more line s form l.line f h.0, names_kept form text _ s l.line (no_line_fault line s form l.line f) h.0 named h.1))
    p

-- ---- what is read

-- what is read is made of the lines of the text
pub made_of : {S : Type 0} (columns : Sheet → S) (form : Form) (x : SheetText) (r : Reading S) → reading_of columns form x ≡ Ok r
    → (s : SheetLines) × (x ≡ Ok s) × (r ≡ record { sheet = columns (sheet_from form s); names = names_from s })
made_of columns form (Ok s) r e = (s, refl, (let k = sym e in cc))
made_of columns form (Err q) r e = absurd cc

-- so what holds of what good lines give, holds of what is read
pub reading_holds : {S : Type 0} (columns : Sheet → S) (form : Form) (text : List ℕ) (P : Reading S → Type 0)
    → ((s : SheetLines) → Good form s → NamesIn text s.orders → end_fault form s ≡ Ok tt
    → P (record { sheet = columns (sheet_from form s); names = names_from s })) → (r : Reading S) → reading_as columns form text ≡ Ok r → P r
unfolding reading_as
reading_holds columns form text P f r e =
    let (s, of, made) = made_of columns form (read_from form text 0) r e in
    let w = text_good form text 0 in
    subst P (sym made) (f s (w.lines s of).0 (w.lines s of).1 (w.ended s of))

pub read_holds : (form : Form) (text : List ℕ) (P : Reading Sheet → Type 0)
    → ((s : SheetLines) → Good form s → NamesIn text s.orders → end_fault form s ≡ Ok tt → P (record { sheet = sheet_from form s; names = names_from s }))
    → (r : Reading Sheet) → reading form text ≡ Ok r → P r
unfolding reading
read_holds form text P f r e = reading_holds (λ s. s) form text P f r e

-- a text that is refused has a line or an end that is
pub refused_of : {S : Type 0} (columns : Sheet → S) (form : Form) (x : SheetText) (r : Refusal) → reading_of columns form x ≡ Err r → x ≡ Err r
refused_of columns form (Ok s) r e = absurd cc
refused_of columns form (Err q) r e = let k : q ≡ r = cc in ap Err k
