-- WHAT IS READ IS ADMITTED: it is inside every limit that planning tests. Assumes nothing.
use Rattle.std.specs.Prelude.{◌≡◌, true, ◌&&◌, List, ℕ, ◌≤◌, ◌<◌, leb}
use Rattle.std.proofs.Common.{leb-true}
use Rattle.numbers.specs.Counting.{nth}
use Rattle.numbers.specs.DecidesLaws.{and_true}
use Rattle.model.specs.Sheet.{places}
use Rattle.model.specs.Memory.{paths_by, sheet_of}
use Rattle.model.specs.Limits.{Inside, capacity_range, running_range}
use Rattle.model.specs.Admission.{Admitted, FewWindows, SomeWindow, PathsInRange, PathsInOrder}
use Rattle.std.specs.Prelude.{Ok}
use Rattle.model.specs.declared.Form.{Form}
use Rattle.model.specs.declared.Form.TheVariants.{Windows, Timetable}
use Rattle.rows.proofs.FaultLaws.{no_last_fault}
use Rattle.rows.proofs.ColumnLaws.{rows_numbered, steps_numbered, column_numbered}
use Rattle.gather.specs.Tests.{windows_complete, complete, end_fault}
use Rattle.std.specs.Option.{is_some}
use Rattle.model.specs.declared.Sheet.{Sheet}
use Rattle.sheet.specs.declared.Reading.{Reading}
use Rattle.gather.proofs.SheetLinesLaws.{Good}
use Rattle.sheet.proofs.TextLaws.{read_holds}
use Rattle.sheet.specs.Sheets.{sheet_from, reading}
use Rattle.rows.proofs.WindowLaws.{Ends}
use Rattle.rows.proofs.TrainLaws.{TrainTimes}
use Rattle.gather.specs.declared.SheetLines.{SheetLines}

-- what goes by the form
record Admits (form : Form) (s : SheetLines) : Type 0 where
  pub few : FewWindows (paths_by form (sheet_from form s))
  pub some : SomeWindow (paths_by form (sheet_from form s))
  pub within_range : PathsInRange (paths_by form (sheet_from form s)) s.trains.count
  pub in_order : PathsInOrder (paths_by form (sheet_from form s)) s.trains.count

paths_admitted : (form : Form) (s : SheetLines) → Good form s → windows_complete form s ≡ true → Admits form s
unfolding sheet_from
paths_admitted Windows s h e =
    let v = s.windows.count in
    let (gap, some) = and_true (is_some s.gap) (leb 1 v) e in
    record {
      few = h.windows.few;
      some = leb-true 1 v some;
      within_range =
          record {
            gap = h.gap gap;
            windows = λ m l k.
                let ends = rows_numbered Ends s.windows.from s.windows.to v h.windows.ends m l k in
                record { from = ends.0; to = ends.1 };
            running = column_numbered (Inside running_range) s.trains.running s.trains.count h.paths.runs;
          };
      in_order =
          record {
            forward = rows_numbered ◌≤◌ s.windows.from s.windows.to v h.windows.forward;
            apart = steps_numbered ◌<◌ s.windows.to s.windows.from v h.windows.apart;
          };
    }
paths_admitted Timetable s h e =
    let q = s.trains.count in
    record {
      few = tt;
      some = tt;
      within_range = λ i l k.
          let times = rows_numbered TrainTimes s.trains.departure s.trains.arrival q h.paths.times i l k in
          record { departure = times.0; arrival = times.1 };
      in_order =
          record {
            forward = rows_numbered ◌<◌ s.trains.departure s.trains.arrival q h.paths.forward;
            departures = steps_numbered ◌<◌ s.trains.departure s.trains.departure q h.paths.departures;
            arrivals = steps_numbered ◌<◌ s.trains.arrival s.trains.arrival q h.paths.arrivals;
          };
    }

pub lines_admitted : (form : Form) (s : SheetLines) → Good form s → end_fault form s ≡ Ok tt → Admitted (sheet_of (sheet_from form s))
unfolding sheet_from end_fault
lines_admitted form s h e =
    let q = s.trains.count in
    let n = s.orders.count in
    let (all, roomy) = no_last_fault (complete form s) (leb n (places (nth s.trains.capacity) q)) e in
    let (two, orders) = and_true (windows_complete form s && leb 1 q) (leb 1 n) all in
    let (windows, trains) = and_true (windows_complete form s) (leb 1 q) two in
    let paths = paths_admitted form s h windows in
    record {
      few = record { orders = h.orders.few; trains = h.trains.few; windows = paths.few };
      complete = record { orders = leb-true 1 n orders; trains = leb-true 1 q trains; windows = paths.some };
      within_range =
          record {
            orders = λ j l. let times = h.orders.times j l in record { release = times.0; due = times.1; weight = h.orders.weights j l };
            capacity = column_numbered (Inside capacity_range) s.trains.capacity q h.trains.capacities;
            paths = paths.within_range;
          };
      in_order = paths.in_order;
      roomy = leb-true _ _ roomy;
    }

-- WHAT IS READ IS ADMITTED
pub read_admitted : (form : Form) (text : List ℕ) (r : Reading Sheet) → reading form text ≡ Ok r → Admitted (sheet_of r.sheet)
read_admitted form text = read_holds form text (λ r. Admitted (sheet_of r.sheet)) (λ s good named ended. lines_admitted form s good ended)
