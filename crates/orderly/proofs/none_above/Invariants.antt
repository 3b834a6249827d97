-- `orderly::none_above` meets its contract: `kept` is the test of the orders passed. Assumes nothing.
use Rattle.std.proofs.Common.{◌≡◌, leb}
use Rattle.numbers.specs.Counting.{at, every}
use Rattle.orderly.proofs.none_above.Given as goal

abbrev pub invariant-loop-train : goal.invariant-loop-train
invariant-loop-train l = l.kept ≡ every (λ m. leb (at l.column m) l.q) l.train-index
