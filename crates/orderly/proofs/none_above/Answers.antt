-- `orderly::none_above` meets its contract: `kept` is the test of the orders passed. Assumes nothing.
use Rattle.std.proofs.Common.{◌≡◌, ◌<◌, arith, length-take}
use Rattle.std.proofs.Math.Bool.{and_comm}
use Rattle.std.proofs.Math.Seq.{get_or-take}
use Rattle.numbers.specs.CountingLaws.{every_start, every_more}
use Rattle.numbers.specs.DecidesLaws.{decides_le, decides_every}
use Rattle.orderly.proofs.none_above.Goals as goal

pub loop-train-init : goal.loop-train-init
loop-train-init c = every_start _

pub loop-train-preserved : goal.loop-train-preserved
loop-train-preserved c =
    let few : c.loop-train.train-index < c.args.n = omega (arith, length-take c.args.n c.args.column.now) in
    rw (get_or-take c.args.n c.args.column.now c.loop-train.train-index 0 few, and_comm, every_more, ← c.loop-train.invariant)

pub returns : goal.returns
returns c =
    let e : c.loop-train.train-index ≡ c.args.n = omega (arith, length-take c.args.n c.args.column.now) in
    rw (c.loop-train.invariant, e) (decides_every (λ m. decides_le _ _) _)
