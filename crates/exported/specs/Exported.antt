-- WHAT THE EXPORTED READING CALLS RETURN AND PROMISE, in numbers: a refusal by document 01's number and returned value.
use Rattle.std.specs.Prelude.{◌≡◌, true, false, List, ℕ, ◌≤◌, length, replicate, Result, Ok, Err}
use Rattle.model.specs.Sheet.{Sheet}
use Rattle.model.specs.Limits.{Inside, ◌–◌}
use Rattle.model.specs.Refusal.{number, returned}
use Rattle.model.specs.Admission.{Admitted}
use Rattle.model.specs.declared.Refusal.{Refusal}
use Rattle.model.specs.declared.Form.{Form}
use Rattle.model.specs.declared.Form.TheVariants.{Windows, Timetable}
use Rattle.model.specs.declared.Sheet as memory
use Rattle.model.specs.declared.WindowSheet.{WindowSheet}
use Rattle.model.specs.declared.TimetableSheet.{TimetableSheet}
use Rattle.model.specs.Memory.{to_windows, to_timetable}
use Rattle.model.specs.Replies.{Admission}
use Rattle.sheet.specs.declared.Reading.{Reading}
use Rattle.sheet.specs.Sheets.{window_reading, timetable_reading}
use Rattle.sheet.specs.Reading.{lines_in}
use Rattle.sheet.specs.ReadingCall.{tells_line, FewPlaces}
use Rattle.exported.specs.declared.Cause.{Cause}
use Rattle.exported.specs.declared.reading.WindowsRead.{WindowsRead}
use Rattle.exported.specs.declared.reading.TimetableRead.{TimetableRead}

-- 0 and 0 where nothing is refused
abbrev pub no_cause : Cause
no_cause = record { number = 0; returned = 0 }

abbrev pub cause_of : Refusal → Cause
cause_of r = record { number = number r; returned = returned r }

abbrev pub cause_in : Admission → Cause
cause_in (Ok _) = no_cause
cause_in (Err r) = cause_of r

-- ---- reading

-- the empty sheet: noughts
unfoldable pub no_sheet : Form → memory.Sheet
no_sheet form =
    record {
      form = form;
      gap = 0;
      window_count = 0;
      window_from = replicate 64 0;
      window_to = replicate 64 0;
      train_count = 0;
      capacity = replicate 32 0;
      running = replicate 32 0;
      departure = replicate 32 0;
      arrival = replicate 32 0;
      order_count = 0;
      release = replicate 200 0;
      due = replicate 200 0;
      weight = replicate 200 0;
    }

-- what a reading call gives: its sheet, or the cause beside the empty sheet
abbrev pub windows_told : Result (Reading WindowSheet) Refusal → WindowsRead
windows_told (Ok r) = record { cause = no_cause; sheet = r.sheet }
windows_told (Err r) = record { cause = cause_of r; sheet = to_windows (no_sheet Windows) }

abbrev pub timetable_told : Result (Reading TimetableSheet) Refusal → TimetableRead
timetable_told (Ok r) = record { cause = no_cause; sheet = r.sheet }
timetable_told (Err r) = record { cause = cause_of r; sheet = to_timetable (no_sheet Timetable) }

-- a text as read
unfoldable pub windows_read : List ℕ → WindowsRead
unfolding window_reading no_sheet
windows_read text = windows_told (window_reading text)

unfoldable pub timetable_read : List ℕ → TimetableRead
unfolding timetable_reading no_sheet
timetable_read text = timetable_told (timetable_reading text)

-- AN EXPORTED READING CALL gives what the definition gives for the text, and says of its cause and of the sheet in it
pub record ExportedReading {R : Type 0} (text : List ℕ) (defined given : R) (cause : Cause) (sheet : Sheet) : Type 0 where
  pub equal : given ≡ defined
  -- what is read passes every test of a planning call
  pub admitted : cause.number ≡ 0 → Admitted sheet
  -- "Refusals" 1 to 7; 1, 2, 3, 4 and 6 return a "line number from 1", and a text has no more lines than bytes
  pub numbered : cause.number ≤ 7
  pub line : tells_line cause.number ≡ true → Inside (1 – length text) cause.returned
  pub no_line : tells_line cause.number ≡ false → cause.returned ≡ 0
  -- document 02, No. 5: "refusal 7 is given only if the capacities add up to less than n"
  pub seven : cause.number ≡ 7 → FewPlaces (lines_in text)
  -- "no sheet is given"
  pub no_sheet : 1 ≤ cause.number → (sheet.orders ≡ 0) × (sheet.trains ≡ 0)
