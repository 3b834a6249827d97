-- `rules::carried` meets its contract: the loop's invariant is that `orders` is the count among the orders passed. Assumes nothing.
use Rattle.std.proofs.Common.{ℕ, ◌+◌, eqb, arith, length-take}
use Rattle.numbers.specs.Counting.{at}
use Rattle.numbers.specs.CountingLaws.{count_start, count_le}
use Rattle.numbers.specs.ListLaws.{first_at}
use Rattle.lowering.proofs.LoweringStepLaws.{count_byte}
use Rattle.rules.proofs.carried.Goals as goal

pub loop-own-init : goal.loop-own-init
loop-own-init c = count_start _

pub overflow_add-orders : goal.overflow_add-orders
overflow_add-orders c =
    let l = c.loop-own in
    let j = l.own-index in
    let aboard = λ (m : ℕ). eqb (at c.args.train.now m) c.args.i in
    let here = first_at c.args.n c.args.train.now j (omega arith) in
    rw here (omega (arith, l.invariant, count_byte aboard j, count_le aboard (j + 1), length-take c.args.n c.args.train.now, c.requires))

pub loop-own-preserved : goal.loop-own-preserved
loop-own-preserved c =
    let l = c.loop-own in
    let j = l.own-index in
    let aboard = λ (m : ℕ). eqb (at c.args.train.now m) c.args.i in
    let here = first_at c.args.n c.args.train.now j (omega arith) in
    rw here (omega (arith, l.invariant, count_byte aboard j))
