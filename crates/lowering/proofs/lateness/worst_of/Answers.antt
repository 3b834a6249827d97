-- `lowering::lateness::worst_of` meets its contract: the loop's invariant is that `worst` is the greatest lateness of the first j orders, or below
-- every lateness where there are none. Assumes nothing.
use Rattle.std.proofs.Common.{◌≡◌, sym, ap, ◌∙◌, ℕ, ℤ, take, get_or-take, arith, to_z, to_z-of_z, w64}
use Rattle.numbers.specs.Counting.{at, nth, larger}
use Rattle.model.specs.Lateness.{lateness}
use Rattle.lowering.proofs.LoweringStepLaws.{lateness_small, worst_none, worst_more, worst_all}
use Rattle.lowering.proofs.lateness.worst_of.Goals as goal

pub loop-j-init : goal.loop-j-init
loop-j-init c = worst_none _ _ _ _

pub loop-j-preserved : goal.loop-j-preserved
loop-j-preserved c =
    let a = c.args in
    let p = c.requires in
    let l = c.loop-j in
    let j = l.j in
    let w = at a.weight j in
    let d = at a.due j in
    let f = nth a.arrival in
    let late = c.lateness_on in
    let was = to_z w64 l.worst-bits in
    let is = to_z-of_z {w = w64} {z = late.result} (record { sfits = late.type_inv }) in
    let now = to_z-of_z {w = w64} {z = c.max-worst.result} (record { sfits = c.max-worst.type_inv }) in
    let chosen = now ∙ c.max-worst.ensures.value ∙ ap (λ (z : ℤ). larger was z) is in
    let lateness_is : late.result ≡ lateness w (f (at (take a.n a.train) j)) d =
    late.ensures ∙ ap (λ (i : ℕ). lateness w (f i) d) (sym (get_or-take a.n a.train j 0 (omega arith))) in
    let small = lateness_small w (f (at a.train j)) d (p.1.weights j (omega arith)) (p.2 j (omega arith)).2 (p.1.dues j (omega arith)) in
    rw chosen
    (worst_more (at a.weight) (at a.due) (take a.n a.train) f j was late.result l.invariant lateness_is (rw late.ensures small))

pub returns : goal.returns
returns c = worst_all _ _ _ _ _ c.loop-j.j _ c.requires.0 (omega arith) c.loop-j.invariant
