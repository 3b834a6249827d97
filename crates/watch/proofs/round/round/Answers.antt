-- `watch::round::round` meets its contract: the state does not fit, or it is at the end, or a round is made. Assumes nothing.
use Rattle.numbers.specs.DecidesLaws.{test_means, test_fails}
use Rattle.model.specs.Memory.{sheet_of}
use Rattle.rounds.specs.ByRound.{all_areas}
use Rattle.watch.proofs.RoundCallLaws.{round_none, round_ended, round_made}
use Rattle.watch.proofs.round.round.Goals as goal

pub returns-then-not-fits : goal.returns-then-not-fits
returns-then-not-fits g c =
    let a = c.args in
    rw (← c.to_sheet-sheet.ensures)
    (round_none (sheet_of c.to_sheet-sheet.result) a.state (all_areas a.pairs.now a.train_of_order.now a.times.now) (test_fails c.fits.ensures
    c.if-not-fits.true))

pub returns-then-state-ne0 : goal.returns-then-state-ne0
returns-then-state-ne0 g c =
    let a = c.args in
    rw (← c.to_sheet-sheet.ensures, c.said.ensures)
    (round_ended (sheet_of c.to_sheet-sheet.result) a.state (all_areas a.pairs.now a.train_of_order.now a.times.now) c.if-state-ne0.true
    (test_means c.fits.ensures c.if-not-fits.false))

pub returns : goal.returns
returns g c =
    let a = c.args in
    rw (← c.to_sheet-sheet.ensures, c.said-2.ensures)
    (round_made (sheet_of c.to_sheet-sheet.result) a.state (all_areas a.pairs.now a.train_of_order.now a.times.now) c.if-state-ne0.false _ _
    c.advance-next.ensures)
