-- `lines_from` meets its contract: the lines from here on give what the whole text gives, and those above are good.
-- The measure is what is left of the text. Assumes nothing.
use Prim.Native.Nat.{◌-◌}
use lib.ListN.{length}
use Rattle.sheet.specs.Reading.{read_from}
use Rattle.sheet.proofs.ReadingLaws.{Rest}
use Rattle.gather.proofs.SheetLinesLaws.{Good}
use Rattle.sheet.proofs.walk.lines_from.Given as goal

abbrev pub invariant-loop-p : goal.invariant-loop-p
invariant-loop-p l = Rest l.form (read_from l.form l.text l.start) l.text l.p l.line l.lines × Good l.form l.lines

abbrev pub decreases-loop-p : goal.decreases-loop-p
decreases-loop-p l = length l.text - l.p
