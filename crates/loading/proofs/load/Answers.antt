-- `loading::load` meets its contract: the loop's invariant is that the trains above i are settled, and what is known of the others. Assumes nothing.
use Rattle.std.proofs.Common.{◌≡◌, refl, false, List, ℕ, ◌-◌, ◌≤◌, ◌<◌, arith}
use Rattle.numbers.specs.Counting.{at, nth}
use Rattle.riders.specs.Standing.{standing}
use Rattle.loading.specs.ToLoad.{ToLoad}
use Rattle.loading.specs.Turns.{needed}
use Rattle.riders.specs.Riders.{Counted}
use Rattle.loading.specs.Stage.{Stage, Known, Unmoved}
use Rattle.loading.proofs.StageLaws.{stage_done}
use Rattle.loading.proofs.SkipLaws.{waits_found, nobody_waits, known_next, skip_settled}
use Rattle.loading.proofs.BeginLaws.{begins, known_first, stage_loads}
use Rattle.loading.proofs.load.Goals as goal
use Rattle.loading.proofs.load.Goals.{then-needs_turn+then-riders-gt0, then-needs_turn+else-riders-gt0, else-needs_turn}

-- at train i: what is known one train further down
module _ {n q : ℕ} {release capacity latest train₀ : List ℕ} (p : ToLoad n q release capacity latest train₀) (held low : List ℕ) {top challenger i : ℕ}
    {train riders : List ℕ} (up : i ≤ q) (pi : 1 ≤ i) (counted : Counted n train riders)
    (stage : Stage n (at release) (nth capacity) latest i train) (known : Known n (at release) (nth capacity) latest held low top challenger i train) where
  -- where it has had its turns
  turned : (after riders' : List ℕ) (t c : ℕ) → Stage n (at release) (nth capacity) latest (i - 1) after → Unmoved n i train after → Counted n after riders'
      → ((j : ℕ) → j < n → at after j ≡ 0 → 1 ≤ at latest j → (at latest j ≤ t) × (standing (at release) j ≤ c))
      → Counted n after riders' × Stage n (at release) (nth capacity) latest (i - 1) after
      × Known n (at release) (nth capacity) latest held low t c (i - 1) after
  turned after riders' t c settled unmoved counts waits = (
    counts,
    settled,
    known_next n (at release) (nth capacity) latest held low top challenger i train after t c unmoved known waits (i - 1) (omega arith),
  )

  -- where it needs none
  passed : needed (at riders 0) (at riders i) (nth capacity i) (at held i) (at low i) top challenger i ≡ false
      → Counted n train riders × Stage n (at release) (nth capacity) latest (i - 1) train
      × Known n (at release) (nth capacity) latest held low top challenger (i - 1) train
  passed idle = (
    counted,
    stage_done n (at release) (nth capacity) latest i pi train stage
        (skip_settled n (at release) (nth capacity) latest held low top challenger p.few_orders i pi (omega (arith, p.few_trains)) train
        riders counted stage known idle),
    known_next n (at release) (nth capacity) latest held low top challenger i train train top challenger (λ j k h b. refl) known known.waits
        (i - 1) (omega arith),
  )

pub loop-i-init : goal.loop-i-init
loop-i-init c =
    let p = c.requires in
    let a = c.args in
    let k = c.leave_late.ensures.leaves in (
      c.leave_late.ensures.counts,
      begins a.n a.q (at a.release.now) (nth a.capacity) a.latest.now a.train _ p.begins k p.few_trains p.may_ride,
      known_first a.n a.q (at a.release.now) (nth a.capacity) a.latest.now a.train _ p.begins k p.few_trains p.may_ride
          c.survey.result.riders c.survey.result.low _ _ c.survey.ensures.counts c.survey.ensures.lows
          (waits_found a.n (at a.release.now) a.latest.now c.leave_late.new.train _ _ c.last_waited_for-top.ensures
          c.greatest_outside-challenger.ensures),
    )

pub loop-i-preserved : goal.loop-i-preserved
loop-i-preserved c =
    let a = c.args in
    let v = c.loop-i.invariant in
    elim c.if-needs_turn.branch [
      | then-needs_turn+then-riders-gt0 w ↦
          rw (w.train-is, w.riders-is, w.top-is, w.challenger-is)
          (turned c.requires c.survey.result.riders c.survey.result.low (omega arith) (omega arith) v.0 v.1 v.2 _ _ _ _ w.settle_train.ensures.settles
          w.settle_train.ensures.keeps w.settle_train.ensures.counts
          (waits_found a.n (at a.release.now) a.latest.now w.settle_train.new.train _ _ w.last_waited_for-top-then-riders-gt0.ensures
          w.greatest_outside-challenger-then-riders-gt0.ensures))
      | then-needs_turn+else-riders-gt0 w ↦
          rw (w.train-is, w.riders-is, w.top-is, w.challenger-is)
          (turned c.requires c.survey.result.riders c.survey.result.low (omega arith) (omega arith) v.0 v.1 v.2 _ _ _ _ w.settle_train.ensures.settles
          w.settle_train.ensures.keeps w.settle_train.ensures.counts
          (nobody_waits a.n (at a.release.now) a.latest.now w.settle_train.new.train w.settle_train.new.riders w.settle_train.ensures.counts
          (omega (arith, w.if-riders-gt0.false))))
      | else-needs_turn w ↦
          rw (w.train-is, w.riders-is, w.top-is, w.challenger-is)
          (passed c.requires c.survey.result.riders c.survey.result.low (omega arith) (omega arith) v.0 v.1 v.2
          (rw c.needs_turn.ensures at w.if-needs_turn.false))
    ]

pub returns : goal.returns
returns c =
    let p = c.requires in
    let a = c.args in
    let e : c.loop-i.i ≡ 0 = omega arith in
    stage_loads a.n a.q (at a.release.now) a.capacity a.latest.now c.loop-i.train (omega (arith, c.loop-i.invariant.0.places, p.few_orders))
    p.few_trains p.may_ride (rw e at c.loop-i.invariant.1)
