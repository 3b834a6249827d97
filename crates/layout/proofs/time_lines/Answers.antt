-- `time_lines` meets its contract: the loop's invariant is that the lines passed are put. Assumes nothing.
use Rattle.std.proofs.Common.{◌≡◌, [], ◌∷◌, ◌++◌, ◌+◌, ◌*◌, refl, sym, ◌∙◌, arith, length, drop, get_or, length-append, rules}
use Rattle.model.specs.Limits.{numbers_a_train}
use Rattle.writing.proofs.WritingLaws.{puts_none, puts_then, puts_same}
use Rattle.layout.specs.Lines.{time_lines}
use Rattle.layout.proofs.LineLaws.{time_next, rest_left, number_read}
use Rattle.layout.proofs.time_lines.Goals as goal

pub loop-i-init : goal.loop-i-init
unfolding time_lines
loop-i-init c = search (rules, puts_none)

pub loop-i-preserved : goal.loop-i-preserved
loop-i-preserved c =
    let l = c.loop-i in
    let times = c.args.times.now in
    let train = c.in-Some.train.now in
    let n = length l.yielded in
    let steps = c.in-Some.ensures.steps in
    let k = numbers_a_train * n in
    let i : c.in-Some.i ≡ n = steps.1 ∙ l.invariant.1 in
    let long : length train ≡ numbers_a_train = steps.0.1.1 ∙ l.invariant.0 in
    let cut : drop k times ≡ train ++ c.next.new.self.iter.rest.now = sym l.invariant.2 ∙ steps.0.1.0 in
    let more : length (l.yielded ++ (c.in-Some.i, c.in-Some.train) ∷ []) ≡ n + 1 = length-append l.yielded ((c.in-Some.i, c.in-Some.train) ∷ []) in
    let departure : get_or train 0 0 ≡ get_or times k 0 = number_read k times train _ cut 0 k 0 (omega arith) (omega (arith, long)) in
    let arrival : get_or train 1 0 ≡ get_or times (k + 1) 0 = number_read k times train _ cut 1 (k + 1) 0 refl (omega (arith, long)) in
    let window : get_or train 2 0 ≡ get_or times (k + 2) 0 = number_read k times train _ cut 2 (k + 2) 0 refl (omega (arith, long)) in
    let line = rw (i, departure, arrival, window) at c.time_line.ensures in
    rw more (
      steps.0.0 ∙ l.invariant.0,
      omega arith,
      rest_left k times train _ cut _ (omega (arith, long)),
      puts_same (sym (time_next times n)) (puts_then _ _ l.invariant.3 line),
    )
