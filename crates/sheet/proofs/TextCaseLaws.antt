-- The definitions give what the texts of TextCases.antt must give: each is computed. Assumes nothing.
use Rattle.std.specs.Prelude.{◌≡◌, refl, map}
use Rattle.model.specs.Cases.{memory_a, case_h}
use Rattle.model.specs.Memory.{timetable_sheet}
use Rattle.fields.specs.Texts.{bytes}
use Rattle.fields.specs.Fields.{run_of}
use Rattle.fields.specs.Numbers.{decimal_of, number_at, number_field}
use Rattle.fields.specs.Names.{name_field}
use Rattle.lines.specs.Lines.{number_count, record_of, numbers_from, number_fields}
use Rattle.gather.specs.SheetLines.{no_lines}
use Rattle.sheet.specs.Reading.{read_from}
use Rattle.sheet.specs.Sheets.{window_reading, timetable_reading}
use Rattle.sheet.specs.OrderNames.{name_in}
use Rattle.sheet.specs.TextCases.{text_a, text_h, text_short, Try, tries}
use Rattle.std.specs.Prelude.{Ok, Err, true}
use Rattle.std.specs.Result.{is_ok}
use Rattle.model.specs.declared.WindowSheet.{WindowSheet}
use Rattle.model.specs.declared.TimetableSheet.{TimetableSheet}
use Rattle.sheet.specs.declared.Reading.{Reading}
use Rattle.model.specs.declared.Form.TheVariants.{Windows}

-- the sheet that document 01 prints is the model's case a
pub a_is_read : (r : Reading WindowSheet) × (window_reading text_a ≡ Ok r) × (r.sheet ≡ memory_a)
unfolding window_reading text_a
    number_field number_at run_of decimal_of name_field number_count record_of numbers_from number_fields no_lines
a_is_read = (_, refl, refl)

pub h_is_read : (r : Reading TimetableSheet) × (timetable_reading text_h ≡ Ok r) × (timetable_sheet r.sheet ≡ case_h)
unfolding timetable_reading text_h
    number_field number_at run_of decimal_of name_field number_count record_of numbers_from number_fields no_lines
h_is_read = (_, refl, refl)

-- places to spare are no fault
pub short_is_read : is_ok (timetable_reading text_short) ≡ true
unfolding timetable_reading text_short
    number_field number_at run_of decimal_of name_field number_count record_of numbers_from number_fields no_lines
short_is_read = refl

-- the name of order 2 is one byte, at position 50
pub name_of_b : name_in Windows text_a 2 ≡ record { start = 50; long = 1 }
unfolding name_in text_a
    number_field number_at run_of decimal_of name_field number_count record_of numbers_from number_fields no_lines
name_of_b = refl

pub all_refused : map (λ (t : Try). read_from t.form (bytes t.text) 0) tries ≡ map (λ (t : Try). Err t.refusal) tries
unfolding read_from bytes tries
    number_field number_at run_of decimal_of name_field number_count record_of numbers_from number_fields no_lines
all_refused = refl
