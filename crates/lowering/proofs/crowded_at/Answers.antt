-- `lowering::crowded_at` meets its contract: the loop's invariant is that `orders` is the count among the latest trains passed. Assumes nothing.
use Rattle.std.proofs.Common.{ℕ, ◌+◌, leb, arith, length-take}
use Rattle.numbers.specs.Counting.{at}
use Rattle.numbers.specs.CountingLaws.{count_start, count_le}
use Rattle.numbers.specs.ListLaws.{first_at}
use Rattle.lowering.proofs.LoweringStepLaws.{count_byte}
use Rattle.lowering.proofs.crowded_at.Goals as goal

pub loop-last-init : goal.loop-last-init
loop-last-init c = count_start _

pub overflow_add-orders : goal.overflow_add-orders
overflow_add-orders c =
    let l = c.loop-last in
    let i = l.last-index in
    let early = λ (m : ℕ). leb (at c.args.latest.now m) c.args.i in
    let here = first_at c.args.n c.args.latest.now i (omega arith) in
    rw here (omega (arith, l.invariant, count_byte early i, count_le early (i + 1), length-take c.args.n c.args.latest.now, c.requires.0))

pub loop-last-preserved : goal.loop-last-preserved
loop-last-preserved c =
    let l = c.loop-last in
    let i = l.last-index in
    let early = λ (m : ℕ). leb (at c.args.latest.now m) c.args.i in
    let here = first_at c.args.n c.args.latest.now i (omega arith) in
    rw here (omega (arith, l.invariant, count_byte early i))
