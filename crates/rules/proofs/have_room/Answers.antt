-- `rules::have_room` meets its contract: `room` is the test of the trains passed. Assumes nothing.
use Rattle.numbers.specs.CountingLaws.{every_start}
use Rattle.rules.proofs.RulesLaws.{room_more}
use Rattle.rules.proofs.have_room.Goals as goal

pub loop-i-init : goal.loop-i-init
loop-i-init c = every_start _

pub loop-i-preserved : goal.loop-i-preserved
loop-i-preserved c =
    let a = c.args in
    rw (c.carried.ensures, c.loop-i.invariant) (room_more a.capacity a.train a.n c.loop-i.i)
