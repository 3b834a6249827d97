-- `lowering::lower` meets its contract: the loop's invariant is that the first j latest trains are lowered and the others are as they were.
-- Assumes nothing.
use Rattle.std.proofs.Common.{◌≡◌, arith, to_z-of_z, w64}
use Rattle.lowering.proofs.LoweringStepLaws.{lowered_all}
use Rattle.lowering.proofs.lower.Goals as goal

pub returns : goal.returns
returns c =
    let l = c.loop-j in
    let end : l.j ≡ c.args.n = omega arith in
    rw (to_z-of_z {w = w64} c.ranges.y) at (lowered_all _ _ _ _ _ c.args.n l.latest (omega (arith, l.invariant.0, c.requires.0.few)) (rw end at l.invariant.1))
