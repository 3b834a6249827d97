-- `lowering::is_crowded` meets its contract: the loop's invariant is that `places` is K_i and that the numbers below i are tested. Assumes nothing.
use Rattle.std.proofs.Common.{ap, ◌∙◌, Bool, ◌||◌, take, arith}
use Rattle.numbers.specs.Counting.{nth}
use Rattle.model.proofs.SheetLaws.{places_start, places_more}
use Rattle.rounds.specs.Lowering.{crowded_at}
use Rattle.lowering.proofs.LoweringStepLaws.{crowded_test, crowded_none, crowded_more, crowded_all}
use Rattle.lowering.proofs.is_crowded.Goals as goal

pub loop-i-init : goal.loop-i-init
loop-i-init c = (omega arith, places_start _, crowded_none _ _ _)

pub loop-i-preserved : goal.loop-i-preserved
loop-i-preserved c =
    let a = c.args in
    let l = c.loop-i in
    let i = l.i in
    let k = nth a.capacity in
    let few = c.requires.2 i (omega arith) in
    let tested = c.crowded_at-crowded.ensures ∙ crowded_test a.n k a.latest i l.places l.invariant.1 in (
      omega (arith, few, l.invariant.0),
      omega (arith, places_more a.capacity i, l.invariant.1),
      ap (λ (b : Bool). b || l.crowded) tested
          ∙ ap (λ (b : Bool). crowded_at a.n k (take a.n a.latest) i || b) l.invariant.2
          ∙ crowded_more a.n k (take a.n a.latest) i,
    )

pub returns : goal.returns
returns c = c.loop-i.invariant.2 ∙ crowded_all _ _ _ c.loop-i.i _ (omega arith) c.requires.3
