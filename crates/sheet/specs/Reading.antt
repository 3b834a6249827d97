-- DOCUMENT 01, "THE SHEET": "The reader walks the caller's text line by line and keeps its position", "Reading takes lines from the top".
use Rattle.std.specs.Prelude.{Result, Ok, Err, cond, List, ℕ, zero, suc, ◌+◌, ltb, length}
use Rattle.model.specs.declared.Refusal.{Refusal}
use Rattle.lines.specs.Lines.{line_at}
use Rattle.gather.specs.Tests.{line_fault, end_fault}
use Rattle.gather.specs.SheetLines.{no_lines, with_line}
use Rattle.model.specs.declared.Form.{Form}
use Rattle.lines.specs.declared.Line.{Line}
use Rattle.lines.specs.declared.LineAt.{LineAt}
use Rattle.model.specs.Replies.{Admission}
use Rattle.gather.specs.declared.SheetLines.{SheetLines}

-- all lines together, or the first refusal; "no sheet is given" then
abbrev pub SheetText : Type 0
SheetText = Result SheetLines Refusal

abbrev pub on_line : Result LineAt Refusal → (Line → ℕ → SheetText) → SheetText
on_line (Ok l) rest = rest l.line l.next
on_line (Err r) rest = Err r

abbrev pub on_admission : Admission → SheetText → SheetText
on_admission (Ok _) rest = rest
on_admission (Err r) rest = Err r

-- the lines from position p on, after those that gave s; the next has the number `line`. No more than n lines are left.
unfoldable pub read_lines : Form → ℕ → List ℕ → ℕ → ℕ → SheetLines → SheetText
unfolding line_at line_fault with_line end_fault
read_lines form zero text p line s = on_admission (end_fault form s) (Ok s)
read_lines form (suc n) text p line s =
    cond (ltb p (length text))
    (on_line (line_at text p line) (λ l next. on_admission (line_fault form line s l) (read_lines form n text next (line + 1) (with_line s l))))
    (on_admission (end_fault form s) (Ok s))

-- the lines from position p on, the first of them number 1; there are no more lines than bytes (ReadingLaws: one-more-bound)
unfoldable pub read_from : Form → List ℕ → ℕ → SheetText
unfolding read_lines
read_from form text p = read_lines form (length text) text p 1 no_lines

-- ---- the lines of a text with no test but that each is a line, up to its end or to what is none

abbrev pub on_next : Result LineAt Refusal → SheetLines → (Line → ℕ → SheetLines) → SheetLines
on_next (Ok l) s rest = rest l.line l.next
on_next (Err r) s rest = s

-- those from position p on, as in `read_lines`
unfoldable pub all_lines : ℕ → List ℕ → ℕ → ℕ → SheetLines → SheetLines
unfolding line_at with_line
all_lines zero text p line s = s
all_lines (suc n) text p line s =
    cond (ltb p (length text)) (on_next (line_at text p line) s (λ l next. all_lines n text next (line + 1) (with_line s l))) s

unfoldable pub lines_in : List ℕ → SheetLines
unfolding all_lines no_lines
lines_in text = all_lines (length text) text 0 1 no_lines
