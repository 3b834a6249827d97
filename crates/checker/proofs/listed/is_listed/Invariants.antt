-- `listed::is_listed` meets its contract: `listed` is the test of the pairs passed. Assumes nothing.
use mathlib.Core.Path.{◌≡◌}
use Rattle.checker.specs.Judging.{listed_in}
use Rattle.checker.proofs.listed.is_listed.Given as goal

abbrev pub invariant-loop-k : goal.invariant-loop-k
invariant-loop-k l = l.listed ≡ listed_in l.pairs l.last l.worst l.k
