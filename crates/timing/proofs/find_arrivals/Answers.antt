-- `timing::find_arrivals` meets its contract: an admitted sheet's gap and running times are in range. Assumes nothing.
use Rattle.std.proofs.Common.{suc, arith}
use Rattle.model.proofs.MemoryLaws.{windows_in_range}
use Rattle.columns.proofs.ColumnLaws.{nth_at}
use Rattle.timing.proofs.find_arrivals.Goals as goal

pub arrivals_to-requires-clause-up_to : goal.arrivals_to-requires-clause-up_to
arrivals_to-requires-clause-up_to c =
    let m = c.args.sheet.columns in
    let range = windows_in_range m c.args.sheet.admitted c.requires.0 in
    (λ j l. rw (nth_at m.running j) at (range.running (suc j) (omega arith) l).1, c.requires.1)
