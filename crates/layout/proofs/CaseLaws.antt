-- The definitions give the P line of document 01's case g, the D lines of case a with their windows, and an E line: each is computed. Assumes
-- nothing.
use Rattle.std.specs.Prelude.{◌≡◌, refl, [], ◌∷◌, pos, negsuc}
use Rattle.model.specs.declared.Refusal.TheVariants.{OutOfRange}
use Rattle.fields.specs.Texts.{bytes}
use Rattle.writing.specs.Decimal.{digits, decimal, signed}
use Rattle.layout.specs.Lines.{pair_line, refusal_line, time_lines}

pub case_g_pair : pair_line (pos 1) (negsuc 0) ≡ bytes "P,1,-1\n"
unfolding pair_line signed decimal digits bytes
case_g_pair = refl

pub case_a_times : time_lines (40 ∷ 70 ∷ 1 ∷ 100 ∷ 130 ∷ 1 ∷ []) 2 ≡ bytes "D,1,40,70,1\nD,2,100,130,1\n"
unfolding time_lines decimal digits bytes
case_a_times = refl

pub refusal_printed : refusal_line (OutOfRange 103) ≡ bytes "E,2,103\n"
unfolding refusal_line decimal digits bytes
refusal_printed = refl
