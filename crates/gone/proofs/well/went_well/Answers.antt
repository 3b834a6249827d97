-- No train remains, or the rows are wrong, or the tests of the columns decide.
use Rattle.std.proofs.Common.{◌∙◌, ap, sym, arith, length, rules}
use Rattle.model.specs.Memory.{sheet_of}
use Rattle.foreign.specs.Gathered.{column_within}
use Rattle.foreign.specs.declared.Given.{Given}
use Rattle.foreign.proofs.SomeRowsLaws.{some_rows}
use Rattle.foreign.proofs.WithinLaws.{within_low}
use Rattle.gone.proofs.WellLaws.{none_remains, wrong_rows, well_given}
use Rattle.gone.proofs.well.went_well.Goals as goal

pub returns-then-sheet-gone-clause-is : goal.returns-then-sheet-gone-clause-is
returns-then-sheet-gone-clause-is c rows e =
    let a = c.args in
    none_remains (sheet_of a.sheet.columns) c.args.sheet.admitted.few.orders c.args.sheet.admitted.few.trains a.departures.now rows a.minute
    c.if-sheet-gone.true

pub returns-then-not-within-clause-is : goal.returns-then-not-within-clause-is
returns-then-not-within-clause-is c rows e =
    let a = c.args in
    wrong_rows (sheet_of a.sheet.columns) c.args.sheet.admitted.few.orders c.args.sheet.admitted.few.trains a.departures.now rows a.minute (omega arith)
    (ap (λ (x : Given). column_within a.sheet.columns.order_count (length a.departures.now) x) (sym e) ∙ sym c.if-not-within.ensures)

pub are_released-released-requires : goal.are_released-released-requires
are_released-released-requires c =
    let a = c.args in
    let few = c.args.sheet.admitted.few in (
      few.orders,
      λ j l. omega (
        arith,
        few.trains,
        within_low a.sheet.columns.order_count (length a.departures.now) a.given few.orders (sym
            c.if-not-within.ensures) j l,
      ),
    )

pub returns-clause-is : goal.returns-clause-is
returns-clause-is c rows e =
    let a = c.args in
    well_given (sheet_of a.sheet.columns) c.args.sheet.admitted.few.orders c.args.sheet.admitted.few.trains a.departures.now rows a.minute (omega
    arith) a.given e
    (sym c.if-not-within.ensures) c.column_of-departure.result c.column_of-departure.ensures _ _ _ _ c.have_room-room.ensures
    c.are_released-released.ensures c.first_are_allowed-allowed.ensures c.none_above-left.ensures

pub returns-clause-gathered : goal.returns-clause-gathered
returns-clause-gathered c u =
    let a = c.args in
    some_rows a.sheet.columns.order_count (length a.departures.now) a.given (omega (arith, c.args.sheet.admitted.few.trains)) (search rules) (sym
    c.if-not-within.ensures)
