-- DOCUMENT 01, "THE SHEET": W lines. Window i stands at place i − 1 of each column.
use Rattle.std.specs.Prelude.{Bool, ◌&&◌, ◌||◌, List, ℕ, ◌+◌, leb, ltb, eqb, set, replicate}
use Rattle.numbers.specs.Counting.{nth}
use Rattle.model.specs.Limits.{inside, window_range, window_counts}
use Rattle.lines.specs.declared.Window.{Window}
use Rattle.rows.specs.declared.LineTests.{LineTests}
use Rattle.rows.specs.declared.WindowRows.{WindowRows}

unfoldable pub no_windows : WindowRows
no_windows = record { count = 0; from = replicate window_counts.most 0; to = replicate window_counts.most 0 }

-- 2, "value outside its range"
abbrev pub window_in_range : Window → Bool
window_in_range w = inside window_range w.from && inside window_range w.to

-- 6, not "window from > to, or from ≤ previous to", after `count` windows that end at `to`
abbrev pub window_in_order : ℕ → List ℕ → Window → Bool
window_in_order count to w = leb w.from w.to && (eqb count 0 || ltb (nth to count) w.from)

abbrev pub window_tests : (late : Bool) → WindowRows → Window → LineTests
window_tests late s w = record {
  late_enough = late;
  few = ltb s.count window_counts.most;
  in_range = window_in_range w;
  in_order = window_in_order s.count s.to w;
}

-- one window more
abbrev pub with_window : WindowRows → Window → WindowRows
with_window s w = record { count = s.count + 1; from = set s.from s.count w.from; to = set s.to s.count w.to }
