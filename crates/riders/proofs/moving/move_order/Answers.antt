-- `riders::moving::move_order` meets its contract: one fewer on the order's train, and one more on the other. Assumes nothing.
use native.Mathlib.Omega.{arith}
use Rattle.riders.proofs.CountedLaws.{rides_one, counted_moved, few_moved}
use Rattle.riders.proofs.moving.move_order.Goals as goal

-- the order's train had a rider
pub overflow_sub-riders : goal.overflow_sub-riders
overflow_sub-riders c =
    rides_one _ _ _ c.requires.not_at.1 _ c.requires.n_le_most.1 c.requires.n_le_most.3

pub overflow_add-riders : goal.overflow_add-riders
overflow_add-riders c =
    let p = c.requires.n_le_most in
    omega (
      arith,
      few_moved c.args.n c.args.train.now c.args.riders.now c.requires.not_at.1 c.args.j p.1 p.0 c.args.i p.2 p.3
          c.requires.not_at.0,
    )

pub returns-clause-counts : goal.returns-clause-counts
returns-clause-counts c =
    let p = c.requires.n_le_most in
    counted_moved c.args.n c.args.train.now c.args.riders.now c.requires.not_at.1 c.args.j p.1 p.0 c.args.i p.2 p.3
    c.requires.not_at.0
