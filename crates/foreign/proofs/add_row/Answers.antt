-- Each return has the tests that led to it.
use Rattle.std.proofs.Common.{sym, rules}
use Rattle.numbers.specs.DecidesLaws.{test_means, test_fails}
use Rattle.foreign.proofs.RowAddedLaws.{decides_known, row_taken, row_not_taken, met_before}
use Rattle.foreign.proofs.add_row.Goals as goal
use Rattle.foreign.proofs.add_row.Goals.{else-known-via-then-known+else-given-order-eq0, else-known-via-else-known}

pub returns-then-given-order-eq0 : goal.returns-then-given-order-eq0
returns-then-given-order-eq0 c =
    sym (row_taken _ _ _ (test_means (decides_known c.args.order c.args.train) (search rules), c.if-given-order-eq0.true))

pub returns-else-known : goal.returns-else-known
returns-else-known c =
    elim c.else-known.branch [
      | else-known-via-then-known+else-given-order-eq0 w ↦ sym (met_before _ _ _ w.if-given-order-eq0.false)
      | else-known-via-else-known w ↦
          let unknown = test_fails (decides_known c.args.order c.args.train) (search rules) in sym (row_not_taken _ _ _ (λ h. unknown h.0))
    ]
