-- `joshkamber_read_windows` meets its contract: it tells what the reading call says. Assumes nothing.
use Rattle.std.proofs.Common.{refl}
use Rattle.model.specs.Memory.{window_sheet}
use Rattle.sheet.specs.Sheets.{window_reading}
use Rattle.exported.specs.Exported.{no_sheet, windows_told, windows_read}
use Rattle.exported.specs.declared.reading.WindowsRead.{WindowsRead}
use Rattle.exported.proofs.ExportedLaws.{exported_reading}
use Rattle.capi.proofs.joshkamber_read_windows.Goals as goal

pub returns : goal.returns
unfolding windows_read window_reading no_sheet
returns c =
    exported_reading windows_told (λ (r : WindowsRead). r.cause) (λ (r : WindowsRead). r.sheet) _
    (record { read = λ x. (refl, refl); refused = λ f. (refl, refl) }) window_sheet _ _ c.read_form.result _ (refl, refl) c.read_form.ensures c.from.ensures
