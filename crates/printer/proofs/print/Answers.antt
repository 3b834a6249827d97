-- `print` meets its contract: one pass counts the bytes, and a second one writes them where they fit. Assumes nothing.
use Rattle.std.proofs.Common.{refl, rules}
use Rattle.writing.proofs.WritingLaws.{printed_short, printed_bytes}
use Rattle.printer.proofs.print.Goals as goal

pub returns-in_err-counted : goal.returns-in_err-counted
returns-in_err-counted g c =
    rw c.from_residual.ensures (printed_short c.counting-counted.ensures c.put_on.ensures (search rules) c.in_err-counted.was)

pub returns : goal.returns
returns g c =
    printed_bytes c.counting-counted.ensures c.put_on.ensures (search rules) _ c.in_ok-counted.was
    c.writing-page.ensures refl c.put_on-2.ensures (search rules)
