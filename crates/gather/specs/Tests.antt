-- DOCUMENT 01, "THE SHEET", THE TABLE OF REFUSALS: the tests of a line after those that gave s, and those after the last line.
use Rattle.std.specs.Prelude.{Bool, true, false, Option, not, ◌&&◌, ◌||◌, ℕ, ◌≤◌, leb}
use Rattle.std.specs.Option.{is_some, is_none}
use Rattle.numbers.specs.Counting.{nth}
use Rattle.model.specs.Sheet.{places}
use Rattle.model.specs.Limits.{inside, gap_range, window_counts, train_counts}
use Rattle.model.specs.Admission.{passed}
use Rattle.model.specs.declared.Refusal.TheVariants.{Malformed}
use Rattle.model.specs.Replies.{Admission}
use Rattle.model.specs.declared.Form.{Form}
use Rattle.model.specs.declared.Form.TheVariants.{Windows, Timetable}
use Rattle.lines.specs.declared.Gap.{Gap}
use Rattle.lines.specs.declared.Line.{Line}
use Rattle.lines.specs.declared.Line.TheVariants as L
use Rattle.rows.specs.Faults.{first_fault, last_fault}
use Rattle.rows.specs.WindowLines.{window_tests}
use Rattle.rows.specs.TrainLines.{train_tests, fixed_train_tests}
use Rattle.rows.specs.OrderLines.{order_tests}
use Rattle.gather.specs.SheetLines.{kind, late_enough}
use Rattle.rows.specs.declared.LineTests.{LineTests}
use Rattle.gather.specs.declared.SheetLines.{SheetLines}

-- no more windows and trains so far than there may be
pub record Counts (s : SheetLines) : Type 0 where
  pub windows : s.windows.count ≤ window_counts.most
  pub trains : s.trains.count ≤ train_counts.most

-- ---- the tests of each kind

abbrev pub gap_tests : (late : Bool) (gap : Option ℕ) → Gap → LineTests
gap_tests late gap g = record { late_enough = late; few = is_none gap; in_range = inside gap_range g.gap; in_order = true }

-- where the kind is late enough, or not
abbrev pub tests_of : (late : Bool) → SheetLines → Line → LineTests
tests_of late s (L.Gap g) = gap_tests late s.gap g
tests_of late s (L.Window w) = window_tests late s.windows w
tests_of late s (L.Train t) = train_tests late s.trains.count t
tests_of late s (L.FixedTrain t) = fixed_train_tests late s.trains t
tests_of late s (L.Order o) = order_tests late s.orders.count o

-- 3, "kind earlier than the line above allows", is one test for all kinds
unfoldable pub kind_tests : SheetLines → Line → LineTests
kind_tests s l = tests_of (late_enough s.above (kind l)) s l

-- ---- "There is one reading call per form, and a line of the other form gives 1"

abbrev pub by_windows : Form → Bool
by_windows Windows = true
by_windows Timetable = false

abbrev pub of_form : Form → Line → Bool
of_form form (L.Gap g) = by_windows form
of_form form (L.Window w) = by_windows form
of_form form (L.Train t) = by_windows form
of_form form (L.FixedTrain t) = not (by_windows form)
of_form form (L.Order o) = true

unfoldable pub line_fault : Form → ℕ → SheetLines → Line → Admission
unfolding first_fault kind_tests
line_fault form line s l = passed (of_form form l) (Malformed line) (first_fault line (kind_tests s l))

-- ---- after the last line: 5, "a kind is missing", and 7, in the words of document 02, No. 5, "the capacities add up to less than n"

-- the kinds that only the window form has
abbrev pub windows_complete : Form → SheetLines → Bool
windows_complete form s = not (by_windows form) || (is_some s.gap && leb 1 s.windows.count)

abbrev pub complete : Form → SheetLines → Bool
complete form s = windows_complete form s && leb 1 s.trains.count && leb 1 s.orders.count

unfoldable pub end_fault : Form → SheetLines → Admission
unfolding last_fault places
end_fault form s = last_fault (complete form s) (leb s.orders.count (places (nth s.trains.capacity) s.trains.count))
