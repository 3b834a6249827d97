-- `orderly::have_room` meets its contract: `kept` is the test of the trains passed. Assumes nothing.
use Rattle.std.proofs.Common.{◌≡◌, arith}
use Rattle.std.proofs.Math.Bool.{and_comm}
use Rattle.numbers.specs.CountingLaws.{every_start, every_more}
use Rattle.orderly.proofs.BarLaws.{decides_room}
use Rattle.orderly.proofs.have_room.Goals as goal

pub loop-i-init : goal.loop-i-init
loop-i-init c = every_start _

pub loop-i-preserved : goal.loop-i-preserved
loop-i-preserved c = rw (c.from.ensures, and_comm, every_more, ← c.loop-i.invariant)

pub returns : goal.returns
returns c =
    let e : c.loop-i.i ≡ c.args.q = omega arith in
    rw (c.loop-i.invariant, e) (decides_room c.args.q c.args.capacity.now c.args.riders)
