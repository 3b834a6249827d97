-- `columns::none_above` meets its contract: `kept` is the test of the trains passed. Assumes nothing.
use mathlib.Core.Path.{◌≡◌}
use Prim.Native.Nat.{suc}
use lib.Dec.{leb}
use Rattle.numbers.specs.Counting.{nth, every}
use Rattle.columns.proofs.none_above.Given as goal

abbrev pub invariant-loop-i : goal.invariant-loop-i
invariant-loop-i l = l.kept ≡ every (λ m. leb (nth l.column (suc m)) (nth l.other (suc m))) l.i
