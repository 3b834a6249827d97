-- `riders::moving::last_waited_for` meets its contract: the loop's invariant is that `last` is the last for the first j orders. Assumes nothing.
use mathlib.Core.Path.{◌≡◌}
use Rattle.riders.specs.Standing.{waited}
use Rattle.riders.proofs.moving.last_waited_for.Given as goal

abbrev pub invariant-loop-j : goal.invariant-loop-j
invariant-loop-j l = (l.last ≡ waited l.latest l.train l.j)
