-- `rules::departures::is_open` meets its contract: `open` is the test of the windows passed. Assumes nothing.
use Rattle.numbers.specs.CountingLaws.{some_start, some_more}
use Rattle.columns.proofs.ColumnLaws.{nth_at}
use Rattle.rules.proofs.departures.is_open.Goals as goal

pub loop-m-init : goal.loop-m-init
loop-m-init c = some_start _

pub loop-m-preserved : goal.loop-m-preserved
loop-m-preserved c =
    let a = c.args in
    let m = c.loop-m.m in
    rw (some_more, ← c.loop-m.invariant, nth_at a.from.now m, nth_at a.to.now m)
