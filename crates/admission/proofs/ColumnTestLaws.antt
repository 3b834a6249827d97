-- The tests over columns are the tests of the sheet in memory that has them. Assumes nothing.
use Rattle.std.specs.Prelude.{◌≡◌, ◌&&◌, List, ℕ, suc, ◌-◌, leb, ltb}
use Rattle.std.proofs.Common.{◌∙◌}
use Rattle.std.proofs.Math.Nat.{sub-zero}
use Rattle.std.proofs.Math.Numerals.{unary_clauses}
use Rattle.numbers.specs.Counting.{nth, every, each}
use Rattle.numbers.specs.CountingLaws.{every_same, every_and}
use Rattle.model.specs.Sheet.{windows, timetable}
use Rattle.model.specs.Limits.{Range, inside, gap_range, window_range, running_range, departure_range, arrival_range, release_range, due_range, weight_range}
use Rattle.model.specs.Memory.{windows_of, timetable_of, sheet_of}
use Rattle.model.specs.Admission.{order_in_range, paths_in_range, paths_in_order}
use Rattle.model.specs.declared.Sheet as memory
use Rattle.admission.specs.ColumnTests.{inside_at, apart_at}

-- ---- by number, and by place

pub inside_numbered : (r : Range) (l : List ℕ) (q : ℕ) → each (λ i. inside r (nth l i)) q ≡ every (inside_at r l) q
inside_numbered r l q = every_same _ _ (λ j. simp unary_clauses) q

pairs_inside : (r s : Range) (a b : List ℕ) (q : ℕ)
    → each (λ i. inside r (nth a i) && inside s (nth b i)) q ≡ (every (inside_at r a) q && every (inside_at s b) q)
pairs_inside r s a b q =
    every_and (λ j. inside r (nth a (suc j))) (λ j. inside s (nth b (suc j))) q ∙ rw (inside_numbered r a q, inside_numbered s b q)

module _ (a b : List ℕ) (q : ℕ) where
  up_to_numbered : each (λ i. leb (nth a i) (nth b i)) q ≡ every (apart_at 0 0 a b) (q - 0)
  up_to_numbered = rw sub-zero (every_same _ _ (λ j. simp unary_clauses) q)

  below_numbered : each (λ i. ltb (nth a i) (nth b i)) q ≡ every (apart_at 0 1 a b) (q - 0)
  below_numbered = rw sub-zero (every_same _ _ (λ j. simp unary_clauses) q)

  rising_numbered : each (λ i. ltb (nth a i) (nth b (suc i))) (q - 1) ≡ every (apart_at 1 1 a b) (q - 1)
  rising_numbered = every_same _ _ (λ j. simp unary_clauses) (q - 1)

module _ (m : memory.Sheet) where
  -- ---- test 2

  pub orders_range : every (order_in_range (sheet_of m)) m.order_count
      ≡ (every (inside_at release_range m.release) m.order_count && every (inside_at due_range m.due) m.order_count
      && every (inside_at weight_range m.weight) m.order_count)
  orders_range =
      let release = inside_at release_range m.release in
      let due = inside_at due_range m.due in
      every_and (λ j. release j && due j) (inside_at weight_range m.weight) _ ∙ rw (every_and release due m.order_count)

  pub windows_range : paths_in_range (windows (windows_of m)) m.train_count
      ≡ (inside gap_range m.gap
      && (every (inside_at window_range m.window_from) m.window_count && every (inside_at window_range m.window_to) m.window_count)
      && every (inside_at running_range m.running) m.train_count)
  windows_range =
      rw (
        pairs_inside window_range window_range m.window_from m.window_to m.window_count,
        inside_numbered running_range m.running m.train_count,
      )

  pub times_range : paths_in_range (timetable (timetable_of m)) m.train_count
      ≡ (every (inside_at departure_range m.departure) m.train_count && every (inside_at arrival_range m.arrival) m.train_count)
  times_range = pairs_inside departure_range arrival_range m.departure m.arrival m.train_count

  -- ---- test 6

  pub windows_order : paths_in_order (windows (windows_of m)) m.train_count
      ≡ (every (apart_at 0 0 m.window_from m.window_to) (m.window_count - 0)
      && every (apart_at 1 1 m.window_to m.window_from) (m.window_count - 1))
  windows_order =
      rw (
        up_to_numbered m.window_from m.window_to m.window_count,
        rising_numbered m.window_to m.window_from m.window_count,
      )

  pub times_order : paths_in_order (timetable (timetable_of m)) m.train_count
      ≡ (every (apart_at 0 1 m.departure m.arrival) (m.train_count - 0)
      && every (apart_at 1 1 m.departure m.departure) (m.train_count - 1)
      && every (apart_at 1 1 m.arrival m.arrival) (m.train_count - 1))
  times_order =
      rw (
        below_numbered m.departure m.arrival m.train_count,
        rising_numbered m.departure m.departure m.train_count,
        rising_numbered m.arrival m.arrival m.train_count,
      )
