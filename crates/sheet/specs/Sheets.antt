-- DOCUMENT 01, "THE SHEET": A TEXT OF EITHER FORM AS A SHEET IN MEMORY, or the first refusal.
use Rattle.std.specs.Prelude.{Result, Ok, Err, List, ℕ}
use Rattle.std.specs.Option.{unwrap_or}
use Rattle.model.specs.Memory.{to_windows, to_timetable}
use Rattle.model.specs.declared.Form.{Form}
use Rattle.model.specs.declared.Form.TheVariants.{Windows, Timetable}
use Rattle.model.specs.declared.Sheet.{Sheet}
use Rattle.model.specs.declared.WindowSheet.{WindowSheet}
use Rattle.model.specs.declared.TimetableSheet.{TimetableSheet}
use Rattle.model.specs.declared.Refusal.{Refusal}
use Rattle.fields.specs.declared.NamePlaces.{NamePlaces}
use Rattle.sheet.specs.Reading.{SheetText, read_from}
use Rattle.gather.specs.declared.SheetLines.{SheetLines}
use Rattle.sheet.specs.declared.Reading.{Reading}

-- the columns of the lines
unfoldable pub sheet_from : Form → SheetLines → Sheet
sheet_from form s = record {
  form = form;
  gap = unwrap_or s.gap 0;
  window_count = s.windows.count;
  window_from = s.windows.from;
  window_to = s.windows.to;
  train_count = s.trains.count;
  capacity = s.trains.capacity;
  running = s.trains.running;
  departure = s.trains.departure;
  arrival = s.trains.arrival;
  order_count = s.orders.count;
  release = s.orders.release;
  due = s.orders.due;
  weight = s.orders.weight;
}

-- where the names of the orders stand in the text
unfoldable pub names_from : SheetLines → NamePlaces
names_from s = record { count = s.orders.count; start = s.orders.name_start; length = s.orders.name_length }

-- what lines give, or the refusal in their place; `columns` makes the struct that is given of the sheet
abbrev pub reading_of : {S : Type 0} → (Sheet → S) → Form → SheetText → Result (Reading S) Refusal
reading_of columns form (Ok s) = Ok (record { sheet = columns (sheet_from form s); names = names_from s })
reading_of columns form (Err r) = Err r

-- "There is one reading call per form": what it gives, as the struct of that form
unfoldable pub reading_as : {S : Type 0} → (Sheet → S) → Form → List ℕ → Result (Reading S) Refusal
unfolding read_from sheet_from names_from
reading_as columns form text = reading_of columns form (read_from form text 0)

-- and as a sheet in memory of either form
unfoldable pub reading : Form → List ℕ → Result (Reading Sheet) Refusal
unfolding reading_as
reading form text = reading_as (λ s. s) form text

unfoldable pub window_reading : List ℕ → Result (Reading WindowSheet) Refusal
unfolding reading_as
window_reading text = reading_as to_windows Windows text

unfoldable pub timetable_reading : List ℕ → Result (Reading TimetableSheet) Refusal
unfolding reading_as
timetable_reading text = reading_as to_timetable Timetable text
