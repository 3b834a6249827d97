-- `rules::departures::are_open` meets its contract: `open` is the test of the trains passed. Assumes nothing.
use mathlib.Core.Bool.{◌&&◌}
use mathlib.Core.Path.{◌≡◌}
use Prim.Native.Nat.{suc}
use lib.Dec.{leb}
use Rattle.numbers.specs.Counting.{nth, every, any}
use Rattle.rules.proofs.departures.are_open.Given as goal

abbrev pub invariant-loop-t : goal.invariant-loop-t
invariant-loop-t l =
    l.«open» ≡ every (λ k. any (λ m. leb (nth l.from m) (nth l.fn.departure (suc k)) && leb (nth l.fn.departure (suc k)) (nth l.to m)) l.v) l.t-index
