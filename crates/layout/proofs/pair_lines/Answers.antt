-- `pair_lines` meets its contract: the loop's invariant is that the lines passed are put. Assumes nothing.
use Rattle.std.proofs.Common.{◌+◌, ◌*◌, ◌≡◌, [], ◌∷◌, ◌++◌, refl, sym, ap, ◌∙◌, arith, rules, length, drop, get_or, length-append}
use Rattle.std.proofs.Common.{ℤ, pos, to_z, of_z, w64, SFits}
use Rattle.std.proofs.Math.Facts.{to_z-of_z}
use Rattle.model.specs.Limits.{numbers_a_pair}
use Rattle.writing.proofs.WritingLaws.{puts_none, puts_then, puts_same}
use Rattle.layout.specs.Lines.{pair_line, pair_lines}
use Rattle.layout.proofs.LineLaws.{pair_next, rest_left, number_read}
use Rattle.layout.proofs.pair_lines.Goals as goal

pub loop-pair-init : goal.loop-pair-init
unfolding pair_lines
loop-pair-init c = search (rules, puts_none)

pub loop-pair-preserved : goal.loop-pair-preserved
loop-pair-preserved c =
    let l = c.loop-pair in
    let pairs = c.args.pairs.now in
    let pair = c.in-Some.pair.now in
    let n = length l.yielded in
    let steps = c.in-Some.ensures.steps in
    let k = numbers_a_pair * n in
    let long : length pair ≡ numbers_a_pair = steps.1.1 ∙ l.invariant.0 in
    let cut : drop k pairs ≡ pair ++ c.next.new.self.rest.now = sym l.invariant.1 ∙ steps.1.0 in
    let more : length (l.yielded ++ c.in-Some.pair ∷ []) ≡ n + 1 = length-append l.yielded (c.in-Some.pair ∷ []) in
    let x = get_or pairs k (pos 0) in
    let y = get_or pairs (k + 1) (pos 0) in
    let x-fits : SFits w64 (get_or pair 0 (pos 0)) = search rules in
    let y-fits : SFits w64 (get_or pair 1 (pos 0)) = search rules in
    let last : to_z w64 (of_z w64 (get_or pair 0 (pos 0))) ≡ x =
    to_z-of_z {w = w64} x-fits ∙ number_read k pairs pair _ cut 0 k (pos 0) (omega arith) (omega (arith, long)) in
    let worst : to_z w64 (of_z w64 (get_or pair 1 (pos 0))) ≡ y =
    to_z-of_z {w = w64} y-fits ∙ number_read k pairs pair _ cut 1 (k + 1) (pos 0) refl (omega (arith, long)) in
    let line = ap (λ (z : ℤ). pair_line z (to_z w64 (of_z w64 (get_or pair 1 (pos 0))))) last ∙ ap (pair_line x) worst in
    rw more (
      steps.0 ∙ l.invariant.0,
      rest_left k pairs pair _ cut _ (omega (arith, long)),
      puts_same (sym (pair_next pairs n)) (puts_then _ _ l.invariant.2 (puts_same line c.pair_line.ensures)),
    )
