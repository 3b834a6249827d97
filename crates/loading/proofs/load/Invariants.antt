-- `loading::load` meets its contract: the loop's invariant is that the trains above i are settled, and what is known of the others. Assumes nothing.
use Rattle.numbers.specs.Counting.{at, nth}
use Rattle.riders.specs.Riders.{Counted}
use Rattle.loading.specs.Stage.{Stage, Known}
use Rattle.loading.proofs.load.Given as goal

abbrev pub invariant-loop-i : goal.invariant-loop-i
invariant-loop-i l =
    Counted l.n l.train l.riders × Stage l.n (at l.release) (nth l.capacity) l.latest l.i l.train
    × Known l.n (at l.release) (nth l.capacity) l.latest l.held l.low l.top l.challenger l.i l.train
