-- Lines without a fault keep all columns inside every limit that planning tests, in both forms. Assumes nothing.
use Rattle.std.specs.Prelude.{◌≡◌, Bool, true, Option, None, ℕ}
use Rattle.std.specs.Option.{is_some, unwrap_or}
use Rattle.std.proofs.Common.{arith}
use Rattle.model.specs.Limits.{Inside, gap_range}
use Rattle.fields.proofs.FieldLaws.{inside_means}
use Rattle.model.specs.declared.Refusal.TheVariants.{Malformed}
use Rattle.std.specs.Prelude.{Ok}
use Rattle.model.specs.declared.Form.{Form}
use Rattle.model.specs.declared.Form.TheVariants.{Windows, Timetable}
use Rattle.rows.proofs.FaultLaws.{NoFault, refused_not_granted, passed_granted, no_fault}
use Rattle.rows.specs.Faults.{first_fault}
use Rattle.rows.proofs.OrderLaws.{GoodOrders, no_orders_good, order_room, order_more}
use Rattle.rows.proofs.WindowLaws.{GoodWindows, no_windows_good, window_room, window_more}
use Rattle.rows.proofs.TrainLaws.{GoodTrains, GoodPaths, no_trains_good, no_paths_good, train_room, train_more, run_more}
use Rattle.rows.proofs.TrainLaws.{fixed_train_room, fixed_train_more, times_more}
use Rattle.gather.specs.Tests.{Counts, gap_tests, of_form, tests_of, kind_tests, line_fault}
use Rattle.gather.specs.SheetLines.{OneMore, kind, late_enough, no_lines, with_line}
use Rattle.lines.specs.declared.Gap.{Gap}
use Rattle.lines.specs.declared.Line.{Line}
use Rattle.lines.specs.declared.Line.TheVariants as L
use Rattle.gather.specs.declared.SheetLines.{SheetLines}

-- a G line without a fault is the only one, and its gap is in its range
module _ (late : Bool) (gap : Option ℕ) (g : Gap) (e : NoFault (gap_tests late gap g)) where
  gap_room : gap ≡ None
  gap_room = grind (arith, e.few)

  gap_in_range : Inside gap_range g.gap
  gap_in_range = inside_means gap_range g.gap e.ranged

pub record Good (form : Form) (s : SheetLines) : Type 0 where
  pub orders : GoodOrders s.orders
  pub gap : is_some s.gap ≡ true → Inside gap_range (unwrap_or s.gap 0)
  pub windows : GoodWindows s.windows
  pub trains : GoodTrains s.trains
  pub paths : GoodPaths form s.trains

pub no_lines_good : (form : Form) → Good form no_lines
unfolding no_lines
no_lines_good form =
    record { orders = no_orders_good; gap = λ e. absurd cc; windows = no_windows_good; trains = no_trains_good; paths = no_paths_good form }

-- lines that are good are not too many
pub good_counts : (form : Form) (s : SheetLines) → Good form s → Counts s
good_counts form s h = record { windows = h.windows.few; trains = h.trains.few }

module _ (line : ℕ) (s : SheetLines) where
  -- a line without a fault is of the form, and passed the tests of its kind
  pub no_line_fault : (form : Form) (l : Line) → line_fault form line s l ≡ Ok tt → NoFault (tests_of (late_enough s.above (kind l)) s l)
  unfolding line_fault kind_tests
  no_line_fault form l e = no_fault line (kind_tests s l) (passed_granted (of_form form l) (Malformed line) (first_fault line (kind_tests s l)) e).1

  -- there may be one more of its kind
  pub one_more : (form : Form) (l : Line) → line_fault form line s l ≡ Ok tt → OneMore s l
  one_more form l e = go _ l (no_line_fault form l e)
    where
      go : (late : Bool) (l : Line) → NoFault (tests_of late s l) → OneMore s l
      go late (L.Gap g) e = gap_room late s.gap g e
      go late (L.Window w) e = window_room late s.windows w e
      go late (L.Train t) e = train_room late s.trains t e
      go late (L.FixedTrain t) e = fixed_train_room late s.trains t e
      go late (L.Order o) e = order_room late s.orders o e

  -- and it keeps the lines good
  pub lines_more : (form : Form) (l : Line) → line_fault form line s l ≡ Ok tt → Good form s → Good form (with_line s l)
  unfolding line_fault with_line
  lines_more form l e h = go form _ l e (no_line_fault form l e) h
    where
      go : (form : Form) (late : Bool) (l : Line) → line_fault form line s l ≡ Ok tt → NoFault (tests_of late s l) → Good form s
          → Good form (with_line s l)
      go form late (L.Gap g) e k h =
          record { orders = h.orders; gap = λ l. gap_in_range late s.gap g k; windows = h.windows; trains = h.trains; paths = h.paths }
      go form late (L.Window w) e k h =
          record { orders = h.orders; gap = h.gap; windows = window_more late s.windows w k h.windows; trains = h.trains; paths = h.paths }
      go Windows late (L.Train t) e k h =
          let trains = train_more late s.trains t k h.trains in
          record { orders = h.orders; gap = h.gap; windows = h.windows; trains = trains; paths = run_more late s.trains t k h.paths }
      go Timetable late (L.Train t) e k h = refused_not_granted e
      go Windows late (L.FixedTrain t) e k h = refused_not_granted e
      go Timetable late (L.FixedTrain t) e k h =
          let trains = fixed_train_more late s.trains t k h.trains in
          record { orders = h.orders; gap = h.gap; windows = h.windows; trains = trains; paths = times_more late s.trains t k h.paths }
      go form late (L.Order o) e k h =
          record { orders = order_more late s.orders o k h.orders; gap = h.gap; windows = h.windows; trains = h.trains; paths = h.paths }
