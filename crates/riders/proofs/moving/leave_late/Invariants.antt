-- `riders::moving::leave_late` meets its contract: the loop's invariant is that of the first j orders the late ones have lost their trains. Assumes nothing.
use Rattle.riders.specs.Riders.{LeftTo}
use Rattle.riders.proofs.moving.leave_late.Given as goal

abbrev pub invariant-loop-j : goal.invariant-loop-j
invariant-loop-j l = LeftTo l.n l.latest l.initial.train l.j l.train l.riders
