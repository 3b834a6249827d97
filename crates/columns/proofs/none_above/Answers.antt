-- `columns::none_above` meets its contract: `kept` is the test of the trains passed. Assumes nothing.
use Rattle.numbers.specs.CountingLaws.{every_start, every_more}
use Rattle.columns.proofs.ColumnLaws.{nth_at}
use Rattle.columns.proofs.none_above.Goals as goal

pub loop-i-init : goal.loop-i-init
loop-i-init c = every_start _

pub loop-i-preserved : goal.loop-i-preserved
loop-i-preserved c =
    rw (every_more, ← c.loop-i.invariant, nth_at c.args.column c.loop-i.i, nth_at c.args.other c.loop-i.i)
