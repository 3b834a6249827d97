-- `listing::list_from` meets its contract: the loop's invariant is that the search after so many rounds is shown, and that its list is in the area. Assumes
-- nothing.
use mathlib.Core.Path.{◌≡◌}
use Prim.Native.Nat.{◌-◌, ◌≤◌}
use lib.ListN.{length}
use Rattle.model.specs.Memory.{sheet_of}
use Rattle.rounds.specs.RoundsBound.{rounds_bound}
use Rattle.recording.specs.Recorded.{held_list, Lists}
use Rattle.search.specs.Setting.{outset_of}
use Rattle.planner.specs.SoFar.{RunningFrom, recorded_now_from}
use Rattle.listing.proofs.list_from.Given as goal

abbrev pub invariant-loop-progress : goal.invariant-loop-progress
invariant-loop-progress l =
    let s = sheet_of l.sheet.columns in
    let o = outset_of s.orders l.outset in
    RunningFrom s o l.progress
    × Lists l.initial.pairs (held_list l.count l.progress.last l.pairs) (recorded_now_from s o l.progress)
    × (l.count ≤ l.progress.rounds)
    × (length l.pairs ≡ length l.initial.pairs)

abbrev pub decreases-loop-progress : goal.decreases-loop-progress
decreases-loop-progress l = rounds_bound (sheet_of l.sheet.columns) - l.progress.rounds
