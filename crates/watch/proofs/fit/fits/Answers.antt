-- `watch::fit::fits` meets its contract: the tests, the counts, and while the search goes on whether a round can be made. Assumes nothing.
use Rattle.std.proofs.Common.{refl, sym}
use Rattle.model.specs.Memory.{sheet_of}
use Rattle.room.proofs.CallLaws.{passed}
use Rattle.watch.proofs.FitLaws.{unfit, decides_ended, decides_going}
use Rattle.watch.proofs.fit.fits.Goals as goal

pub returns-in_default : goal.returns-in_default
returns-in_default c =
    let a = c.args in
    unfit (sheet_of a.sheet.now) a.state _ _ _ _ c.test_for_search.ensures _ c.in_default.is

pub invariant_of-sheet : goal.invariant_of-sheet
invariant_of-sheet c = record { admitted = (passed (sheet_of c.args.sheet.now) _ (sym c.in-Ok.ensures)).0 }

pub returns-then-state-ne0 : goal.returns-then-state-ne0
returns-then-state-ne0 c =
    let a = c.args in
    rw c.figure-most.ensures (decides_ended (sheet_of a.sheet.now) a.state _ _ _ _ c.in-Ok.ensures refl c.if-state-ne0.true)

pub returns : goal.returns
returns c =
    let a = c.args in
    rw c.figure-most.ensures
    (decides_going (sheet_of a.sheet.now) a.state _ _ _ _ c.in-Ok.ensures refl c.if-state-ne0.false _
    (rw c.resume-progress.ensures at c.fits.ensures))
