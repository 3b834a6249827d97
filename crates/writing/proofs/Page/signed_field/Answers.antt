-- `signed_field` meets its contract: a number below 0 is a minus and its size, another is its size. Assumes nothing.
use Rattle.std.proofs.Common.{◌≡◌, nat_abs, sym, ap, ◌∙◌, w64}
use Rattle.std.proofs.Math.Facts.{to_z-of_z}
use Rattle.writing.specs.Decimal.{decimal}
use Rattle.writing.proofs.WritingLaws.{puts_cons, puts_same}
use Rattle.writing.proofs.DecimalLaws.{signed_negative, signed_other}
use Rattle.writing.proofs.Page.signed_field.Goals as goal
use Rattle.writing.proofs.Page.signed_field.Goals.{then-n-lt0, else-n-lt0}

pub returns : goal.returns
returns c =
    let z = to_z-of_z {w = w64} c.ranges.n in
    let size : decimal c.unsigned_abs.result ≡ decimal (nat_abs c.args.n) = ap decimal (c.unsigned_abs.ensures.value ∙ ap nat_abs z) in
    puts_cons _ _ _ _ _ c.put.ensures
    (elim c.if-n-lt0.branch [
      | then-n-lt0 w ↦
          puts_same (sym (signed_negative c.args.n (rw z at w.if-n-lt0.true)))
          (puts_cons _ _ _ _ _ w.put-then-n-lt0.ensures (puts_same size (rw w.self-is at c.put_decimal.ensures)))
      | else-n-lt0 w ↦
          puts_same (size ∙ sym (signed_other c.args.n (rw z at w.if-n-lt0.false))) (rw w.self-is at c.put_decimal.ensures)
    ])
