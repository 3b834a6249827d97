-- `columns::all_apart` meets its contract: `all` is the test of the places passed. Assumes nothing.
use mathlib.Core.Path.{◌≡◌}
use Prim.Native.Nat.{◌≤◌, ◌-◌, max}
use Rattle.numbers.specs.Counting.{every}
use Rattle.admission.specs.ColumnTests.{apart_at}
use Rattle.admission.proofs.columns.all_apart.Given as goal

abbrev pub invariant-loop-k : goal.invariant-loop-k
invariant-loop-k l = (l.k ≤ max l.ahead l.count) × (l.all ≡ every (apart_at l.ahead l.by l.a l.b) (l.k - l.ahead))
