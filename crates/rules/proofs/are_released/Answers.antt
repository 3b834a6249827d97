-- `rules::are_released` meets its contract: `released` is the test of the orders passed. Assumes nothing.
use Rattle.numbers.specs.CountingLaws.{every_start, every_more}
use Rattle.rules.proofs.are_released.Goals as goal

pub loop-j-init : goal.loop-j-init
loop-j-init c = every_start _

pub loop-j-preserved : goal.loop-j-preserved
loop-j-preserved c = rw (every_more, ← c.loop-j.invariant, c.is_released-released.ensures)
