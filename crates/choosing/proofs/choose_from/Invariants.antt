-- `choosing::choose_from` meets its contract: the loop's invariant is that the search after so many rounds is shown, and that what it answers to the wish is
-- held. Assumes nothing.
use mathlib.Core.Path.{◌≡◌}
use Prim.Native.Nat.{◌-◌}
use lib.ListN.{length}
use Rattle.model.specs.Memory.{sheet_of}
use Rattle.rounds.specs.RoundsBound.{rounds_bound}
use Rattle.rounds.specs.Told.{areas}
use Rattle.search.specs.Setting.{outset_of}
use Rattle.planner.specs.SoFar.{RunningFrom, recorded_now_from, Holds}
use Rattle.choosing.proofs.choose_from.Given as goal

abbrev pub invariant-loop-progress : goal.invariant-loop-progress
invariant-loop-progress l =
    let s = sheet_of l.sheet.columns in
    let o = outset_of s.orders l.outset in
    RunningFrom s o l.progress
    × Holds s l.wish l.choice (areas l.train_of_order l.times) (areas l.initial.train_of_order l.initial.times) l.progress.last (recorded_now_from
    s o l.progress)
    × (length l.train_of_order ≡ length l.initial.train_of_order)
    × (length l.times ≡ length l.initial.times)

abbrev pub decreases-loop-progress : goal.decreases-loop-progress
decreases-loop-progress l = rounds_bound (sheet_of l.sheet.columns) - l.progress.rounds
