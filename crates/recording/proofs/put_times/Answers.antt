-- `recording::put_times` meets its contract: the times of the first i trains stand at the front of the area. Assumes nothing.
use Rattle.std.proofs.Common.{arith, refl}
use Rattle.rounds.specs.Areas.{time_numbers}
use Rattle.recording.proofs.RecordingStepLaws.{times_next}
use Rattle.recording.proofs.put_times.Goals as goal

pub loop-i-init : goal.loop-i-init
unfolding time_numbers
loop-i-init c = refl

pub loop-i-preserved : goal.loop-i-preserved
loop-i-preserved c =
    let a = c.args in
    times_next a.departure a.arrival a.window a.q a.out.now c.loop-i.out c.loop-i.i _ c.loop-i-test.true (omega arith) c.loop-i.invariant c.from.ensures
