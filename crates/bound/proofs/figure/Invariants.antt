-- `bound::figure` meets its contract: `places` is K_i, and `most` is 1 and the sum so far. Assumes nothing.
use mathlib.Core.Path.{◌≡◌}
use Prim.Native.Nat.{◌≤◌, ◌+◌, ◌*◌}
use Rattle.numbers.specs.Counting.{nth, total}
use Rattle.model.specs.Sheet.{places as K}
use Rattle.bound.proofs.FigureLaws.{summand}
use Rattle.bound.proofs.figure.Given as goal

abbrev pub invariant-loop-own : goal.invariant-loop-own
invariant-loop-own l =
    (l.places ≡ K (nth l.fn.sheet.columns.capacity) l.own-index)
    × (l.most ≡ 1 + total (summand l.fn.sheet.columns.order_count l.fn.sheet.columns.capacity) l.own-index)
    × (l.places ≤ 64 * l.own-index)
    × (l.most ≤ 1 + 2048 * l.own-index)
