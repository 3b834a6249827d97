-- `put_decimal` meets its contract: a digit alone, or the digits before it and then that digit. Assumes nothing.
use Rattle.std.proofs.Common.{sym}
use Rattle.writing.proofs.WritingLaws.{puts_then, puts_same}
use Rattle.writing.proofs.DecimalLaws.{decimal_one, decimal_more}
use Rattle.writing.proofs.Page.+put_decimal.Goals as goal
use Rattle.writing.proofs.Page.+put_decimal.Goals.{then-n-ge10, else-n-ge10}

pub returns : goal.returns
returns t c =
    elim c.if-n-ge10.branch [
      | then-n-ge10 w ↦
          puts_same (sym (decimal_more c.args.n w.if-n-ge10.true))
          (puts_then _ _ w.put_decimal.ensures (rw w.self-is at c.put.ensures))
      | else-n-ge10 w ↦ puts_same (sym (decimal_one c.args.n w.if-n-ge10.false)) (rw w.self-is at c.put.ensures)
    ]
