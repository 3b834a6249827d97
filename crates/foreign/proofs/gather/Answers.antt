-- Before the first row nothing is gathered, and a turn adds one row.
use Rattle.std.proofs.Common.{add-one, ◌∙◌, ap}
use Rattle.foreign.specs.Gathered.{row_added, gathered}
use Rattle.model.specs.Foreign.{row_at}
use Rattle.foreign.proofs.gather.Goals as goal

pub loop-row-init : goal.loop-row-init
unfolding gathered
loop-row-init c = c.before_rows-given.ensures

pub loop-row-preserved : goal.loop-row-preserved
unfolding gathered
loop-row-preserved c =
    let l = c.loop-row in
    let rows = c.args.rows.now in
    rw add-one (c.add_row.ensures ∙ ap (λ g. row_added g (row_at rows l.row-index).order (row_at rows l.row-index).train) l.invariant)
