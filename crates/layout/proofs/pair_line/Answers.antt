-- `pair_line` meets its contract: its fields are put one behind the other. Assumes nothing.
use Rattle.std.proofs.Common.{ap, List, ℕ, ℤ, w64}
use Rattle.std.proofs.Math.Facts.{to_z-of_z}
use Rattle.writing.proofs.WritingLaws.{puts_then, puts_same}
use Rattle.writing.specs.Decimal.{signed, field}
use Rattle.layout.specs.Lines.{pair_line}
use Rattle.layout.proofs.pair_line.Goals as goal

pub returns : goal.returns
unfolding pair_line
returns c =
    let bytes : ℤ → List ℕ = λ n. field (signed n) in
    let last = puts_same (ap bytes (to_z-of_z {w = w64} c.ranges.last)) c.signed_field.ensures in
    let worst = puts_same (ap bytes (to_z-of_z {w = w64} c.ranges.worst)) c.signed_field-2.ensures in
    puts_then _ _ (puts_then _ _ (puts_then _ _ c.put.ensures last) worst) c.put-2.ensures
