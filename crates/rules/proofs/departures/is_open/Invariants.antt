-- `rules::departures::is_open` meets its contract: `open` is the test of the windows passed. Assumes nothing.
use mathlib.Core.Bool.{◌&&◌}
use mathlib.Core.Path.{◌≡◌}
use Prim.Native.Nat.{suc}
use lib.Dec.{leb}
use Rattle.numbers.specs.Counting.{nth, some}
use Rattle.rules.proofs.departures.is_open.Given as goal

abbrev pub invariant-loop-m : goal.invariant-loop-m
invariant-loop-m l = l.«open» ≡ some (λ k. leb (nth l.from (suc k)) l.t && leb l.t (nth l.to (suc k))) l.m
