-- `riders::standing::picked` meets its contract: the loop's invariant is what is picked of the first j orders. Assumes nothing.
use Rattle.std.proofs.Common.{◌≡◌, refl, sym, ap, ◌∙◌, ℕ, Bool, cond}
use Rattle.numbers.specs.Counting.{at}
use Rattle.riders.specs.Standing.{standing, picked}
use Rattle.riders.proofs.StepLaws.{picked_next}
use Rattle.riders.proofs.standing.picked.Goals as goal
use Rattle.riders.proofs.standing.picked.Goals.{then-passes, else-passes}

pub loop-j-init : goal.loop-j-init
unfolding picked
loop-j-init g c = λ test op tests picks. refl

pub loop-j-preserved : goal.loop-j-preserved
loop-j-preserved g c = λ test op tests picks.
    let value : ℕ → ℕ = standing (at c.args.release.now) in
    let own : c.if-passes.pick ≡ cond c.passes.result (value c.loop-j.j) c.args.none = elim c.if-passes.branch [
      | then-passes w ↦ w.pick-is ∙ c.standing_of-own.ensures ∙ sym (ap (λ (b : Bool). cond b (value c.loop-j.j) c.args.none) w.if-passes.true)
      | else-passes w ↦ w.pick-is ∙ sym (ap (λ (b : Bool). cond b (value c.loop-j.j) c.args.none) w.if-passes.false)
    ] in
    picked_next op c.args.none test value c.loop-j.j c.loop-j.so_far c.if-passes.pick c.pick-so_far.result c.passes.result (tests _ _ c.passes.ensures)
    (c.loop-j.invariant test op tests picks) own (picks _ _ _ c.pick-so_far.ensures)
