-- `joshkamber_read_timetable` meets its contract: it tells what the reading call says. Assumes nothing.
use Rattle.std.proofs.Common.{refl}
use Rattle.model.specs.Memory.{timetable_sheet}
use Rattle.sheet.specs.Sheets.{timetable_reading}
use Rattle.exported.specs.Exported.{no_sheet, timetable_told, timetable_read}
use Rattle.exported.specs.declared.reading.TimetableRead.{TimetableRead}
use Rattle.exported.proofs.ExportedLaws.{exported_reading}
use Rattle.capi.proofs.joshkamber_read_timetable.Goals as goal

pub returns : goal.returns
unfolding timetable_read timetable_reading no_sheet
returns c =
    exported_reading timetable_told (λ (r : TimetableRead). r.cause) (λ (r : TimetableRead). r.sheet) _
    (record { read = λ x. (refl, refl); refused = λ f. (refl, refl) }) timetable_sheet _ _ c.read_form.result _ (refl, refl) c.read_form.ensures c.from.ensures
