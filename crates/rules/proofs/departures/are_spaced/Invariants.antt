-- `rules::departures::are_spaced` meets its contract: `spaced` is the test of the trains passed but the first. Assumes nothing.
use mathlib.Core.Path.{◌≡◌}
use Prim.Native.Nat.{suc, ◌+◌, ◌≤◌, ◌-◌, max}
use lib.Dec.{leb}
use Rattle.numbers.specs.Counting.{nth, every}
use Rattle.rules.proofs.departures.are_spaced.Given as goal

abbrev pub invariant-loop-i : goal.invariant-loop-i
invariant-loop-i l = (l.i ≤ max l.q 1) × (l.spaced ≡ every (λ m. leb (nth l.departure (suc m) + l.gap) (nth l.departure (suc (suc m)))) (l.i - 1))
