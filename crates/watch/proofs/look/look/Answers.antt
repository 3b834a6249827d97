-- `watch::look::look` meets its contract: a count that the area holds. Assumes nothing.
use native.Mathlib.Omega.{arith}
use Rattle.watch.proofs.CallLaws.{look_here, look_none}
use Rattle.watch.proofs.look.look.Goals as goal

pub returns-then-state-pairs : goal.returns-then-state-pairs
returns-then-state-pairs c = let a = c.args in look_here a.state a.pairs.now (omega (arith, c.if-state-pairs.true))

pub returns : goal.returns
returns c = let a = c.args in look_none a.state a.pairs.now (λ l. omega (arith, c.if-state-pairs.false))
