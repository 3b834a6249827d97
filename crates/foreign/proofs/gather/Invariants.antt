-- The rows passed so far are gathered.
use Rattle.std.proofs.Common.{◌≡◌}
use Rattle.foreign.specs.Gathered.{gathered}
use Rattle.foreign.proofs.gather.Given as goal

abbrev pub invariant-loop-row : goal.invariant-loop-row
invariant-loop-row l = l.given ≡ gathered l.rows l.row-index
