-- `columns::all_inside` meets its contract: `all` is the test of the places passed. Assumes nothing.
use native.Mathlib.Omega.{arith}
use Rattle.numbers.specs.CountingLaws.{every_start, every_more}
use Rattle.numbers.specs.ListLaws.{first_at}
use Rattle.admission.proofs.columns.all_inside.Goals as goal

pub loop-value-init : goal.loop-value-init
loop-value-init c = every_start _

pub loop-value-preserved : goal.loop-value-preserved
loop-value-preserved c =
    let l = c.loop-value in
    rw (every_more, ← l.invariant, first_at c.args.count c.args.column.now l.value-index (omega arith))
