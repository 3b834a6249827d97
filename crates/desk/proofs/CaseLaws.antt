-- The definitions give the bytes that document 01, with document 02's windows, prints for case a: they are computed. Assumes nothing.
use Rattle.std.specs.Prelude.{◌≡◌, refl, Ok, [], ◌∷◌, pos}
use Rattle.model.specs.declared.Form.TheVariants.{Windows}
use Rattle.fields.specs.Texts.{bytes}
use Rattle.fields.specs.Fields.{run_of}
use Rattle.fields.specs.Numbers.{decimal_of, number_at, number_field}
use Rattle.fields.specs.Names.{name_field}
use Rattle.fields.specs.NamePlaces.{name_at, within}
use Rattle.lines.specs.Lines.{number_count, record_of, numbers_from, number_fields}
use Rattle.gather.specs.SheetLines.{no_lines}
use Rattle.model.specs.declared.Sheet.{Sheet}
use Rattle.sheet.specs.declared.Reading.{Reading}
use Rattle.sheet.specs.Sheets.{reading}
use Rattle.sheet.specs.TextCases.{text_a}
use Rattle.writing.specs.Decimal.{digits, decimal, signed}
use Rattle.layout.specs.Lines.{pair_line, time_line, order_line, rounds_line, pair_lines, time_lines, name_of, order_lines}
use Rattle.printer.specs.PlanBytes.{plan_bytes}

pub case_a_printed :
    (r : Reading Sheet) × (reading Windows text_a ≡ Ok r)
    × (plan_bytes text_a r.names (pos 110 ∷ pos 150 ∷ pos 130 ∷ pos 70 ∷ []) (2 ∷ 1 ∷ 2 ∷ []) (40 ∷ 70 ∷ 1 ∷ 100 ∷ 130 ∷ 1 ∷ []) 2
    ≡ bytes "P,110,150\nP,130,70\nD,1,40,70,1\nD,2,100,130,1\nL,A,2\nL,B,1\nL,C,2\nR,2\n")
unfolding plan_bytes pair_lines time_lines order_lines pair_line time_line order_line rounds_line name_of name_at within signed decimal digits reading
    text_a bytes number_field number_at run_of decimal_of name_field number_count record_of numbers_from number_fields no_lines
case_a_printed = (_, refl, refl)
