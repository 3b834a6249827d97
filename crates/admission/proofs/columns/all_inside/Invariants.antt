-- `columns::all_inside` meets its contract: `all` is the test of the places passed. Assumes nothing.
use mathlib.Core.Path.{◌≡◌}
use Rattle.numbers.specs.Counting.{every}
use Rattle.model.specs.Limits.{◌–◌}
use Rattle.admission.specs.ColumnTests.{inside_at}
use Rattle.admission.proofs.columns.all_inside.Given as goal

abbrev pub invariant-loop-value : goal.invariant-loop-value
invariant-loop-value l = l.all ≡ every (inside_at (l.least – l.most) l.column) l.value-index
