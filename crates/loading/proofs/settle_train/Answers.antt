-- `loading::settle_train` meets its contract: each turn keeps the stage, and whoever could still come stands lower after it. Assumes nothing.
use Rattle.std.proofs.Common.{◌≡◌, ◌⊎◌, inl, inr, List, ℕ, ◌≤◌, ◌<◌, arith}
use Rattle.numbers.specs.Counting.{at, nth, count}
use Rattle.numbers.specs.DecidesLaws.{decides_lt, decided, test_means, test_fails}
use Rattle.rounds.specs.Riding.{on}
use Rattle.riders.specs.Riders.{Counted}
use Rattle.riders.proofs.CountedLaws.{rides_one}
use Rattle.loading.proofs.StageLaws.{Wanted, decides_wanted, wanted_full, not_wanted, unmoved_then, stage_done, rests_idle}
use Rattle.loading.proofs.TurnLaws.{turn_moves, turn_rests}
use Rattle.loading.proofs.settle_train.Goals as goal

-- whoever has no train after a turn
still_waits : {n places top i : ℕ} (latest : List ℕ) {train riders : List ℕ} → Counted n train riders → i ≤ 32 → Wanted (at riders i) places (at riders 0) i top
    → ((j : ℕ) → j < n → at train j ≡ 0 → 1 ≤ at latest j → (at latest j ≤ top) ⊎ (i ≤ top))
    → (j : ℕ) → j < n → 1 ≤ at latest j → (at train j ≡ 0) ⊎ (places ≤ count (on train i) n) → (at latest j ≤ top) ⊎ (i ≤ top)
still_waits latest counts qi wanted waits j k p (inl e) = waits j k e p
still_waits {n} {places} {top} {i} latest {train} {riders} counts qi wanted waits j k p (inr full) =
    inr (wanted_full (at riders i) places (at riders 0) i top wanted (omega (arith, counts.counted i qi)))

-- nobody without a train may ride train i
too_late : {n top i : ℕ} (latest : List ℕ) {train riders : List ℕ} → 1 ≤ i → Counted n train riders
    → ((j : ℕ) → j < n → at train j ≡ 0 → 1 ≤ at latest j → (at latest j ≤ top) ⊎ (i ≤ top))
    → (j : ℕ) → j < n → at train j ≡ 0 → (0 < at riders 0 → top < i) → (0 < at latest j) ⊎ (¬ (0 < at latest j)) → at latest j < i
too_late latest pi counts waits j k e behind (inr none) = omega (arith, pi)
too_late {n} {top} {i} latest {train} {riders} pi counts waits j k e behind (inl some) = go (waits j k e some)
  where
    low : top < i
    low = behind (rw e at (rides_one n train riders counts j k (omega arith)))

    go : (at latest j ≤ top) ⊎ (i ≤ top) → at latest j < i
    go (inl a) = omega (arith, low)
    go (inr a) = absurd (omega (arith, low))

pub loop-riders-smaller : goal.loop-riders-smaller
loop-riders-smaller c =
    let p = c.requires.riding in
    (turn_moves c.args.n (at c.args.release.now) c.args.latest.now p.0.few p.0.releases c.args.i c.loop-riders.train
    (nth c.args.capacity.now) p.1 p.2 c.loop-riders.invariant.0.places c.loop-riders.invariant.2 _ c.loop-riders.invariant.3
    c.take_turn.new.train _ c.take_turn.ensures.turns c.if-not-take_turn.false).fell

pub loop-riders-preserved : goal.loop-riders-preserved
loop-riders-preserved c =
    let p = c.requires.riding in
    let wanted = decides_wanted (at c.loop-riders.riders c.args.i) c.of_train-places.result (at c.loop-riders.riders 0) c.args.i c.args.top in
    let m = turn_moves c.args.n (at c.args.release.now) c.args.latest.now p.0.few p.0.releases c.args.i c.loop-riders.train
    (nth c.args.capacity.now) p.1 p.2 c.loop-riders.invariant.0.places c.loop-riders.invariant.2 _ c.loop-riders.invariant.3
    c.take_turn.new.train _ c.take_turn.ensures.turns c.if-not-take_turn.false in (
      c.take_turn.ensures.counts,
      unmoved_then c.args.n c.args.i c.args.train.now c.loop-riders.train c.take_turn.new.train c.loop-riders.invariant.1 m.unmoved,
      m.stage,
      c.loop-riders.invariant.3,
      λ j k u p. still_waits c.args.latest.now c.loop-riders.invariant.0 c.requires.riding.2 (test_means wanted c.loop-riders-test.true)
          c.loop-riders.invariant.4 j k p (m.without j k u),
    )

pub returns-after-loop-riders-clause-settles : goal.returns-after-loop-riders-clause-settles
returns-after-loop-riders-clause-settles c =
    let p = c.requires.riding in
    let counts = c.loop-riders.invariant.0 in
    let wanted = decides_wanted (at c.loop-riders.riders c.args.i) c.of_train-places.result (at c.loop-riders.riders 0) c.args.i c.args.top in
    let (long, behind) = not_wanted (at c.loop-riders.riders c.args.i) c.of_train-places.result (at c.loop-riders.riders 0) c.args.i c.args.top
    (test_fails wanted c.loop-riders-test.false) in
    stage_done c.args.n (at c.args.release.now) (nth c.args.capacity.now) c.args.latest.now c.args.i p.1 c.loop-riders.train
    c.loop-riders.invariant.2
    (rests_idle c.args.n (at c.args.release.now) (nth c.args.capacity.now) c.args.latest.now p.0.few c.args.i p.1 p.2
    c.loop-riders.train counts.places c.loop-riders.invariant.2
    (omega (arith, long, counts.counted c.args.i p.2, c.loop-riders.invariant.3, c.loop-riders.invariant.2.room c.args.i p.1 p.2))
    (λ j k e. too_late c.args.latest.now p.1 counts c.loop-riders.invariant.4 j k e behind (decided (decides_lt 0 (at c.args.latest.now j)))))

pub returns-then-not-take_turn-clause-settles : goal.returns-then-not-take_turn-clause-settles
returns-then-not-take_turn-clause-settles c =
    let p = c.requires.riding in
    let (same, z) = turn_rests c.args.n (at c.args.release.now) c.args.latest.now p.0.few p.0.releases c.args.i c.loop-riders.train
    (nth c.args.capacity.now) p.1 p.2 c.loop-riders.invariant.0.places c.loop-riders.invariant.2 _ c.loop-riders.invariant.3
    c.take_turn.new.train _ c.take_turn.ensures.turns c.if-not-take_turn.true in
    rw same
    (stage_done c.args.n (at c.args.release.now) (nth c.args.capacity.now) c.args.latest.now c.args.i p.1 c.loop-riders.train
    c.loop-riders.invariant.2 z)

pub returns-then-not-take_turn-clause-keeps : goal.returns-then-not-take_turn-clause-keeps
returns-then-not-take_turn-clause-keeps c =
    let p = c.requires.riding in
    let (same, z) = turn_rests c.args.n (at c.args.release.now) c.args.latest.now p.0.few p.0.releases c.args.i c.loop-riders.train
    (nth c.args.capacity.now) p.1 p.2 c.loop-riders.invariant.0.places c.loop-riders.invariant.2 _ c.loop-riders.invariant.3
    c.take_turn.new.train _ c.take_turn.ensures.turns c.if-not-take_turn.true in
    rw same c.loop-riders.invariant.1
