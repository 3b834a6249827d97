-- `number_fields` meets its contract: at each turn the fields that are left give what all of them give. Assumes nothing.
use Rattle.std.proofs.Common.{◌≡◌, ℕ, [], ◌∷◌, ◌+◌, ◌-◌, ◌≤◌, ◌<◌, suc, length, arith, sym, Some, ◌∙◌}
use Rattle.std.proofs.lemmas.List.{length-take-le}
use Rattle.std.proofs.lemmas.Grind.{common_steps}
use Rattle.lines.specs.Lines.{number_count, number_fields}
use Rattle.lines.proofs.LineLaws.{few_numbers, one_number}
use Rattle.lines.proofs.kinds.number_fields.Goals as goal

pub slice_bounds-value-items-end : goal.slice_bounds-value-items-end
slice_bounds-value-items-end c =
    let few : c.in_ok-count.count ≤ 3 = few_numbers c.args.letter _ (sym c.number_count.ensures ∙ c.in_ok-count.ensures.ok_part) in
    sym (length-take-le _ _ few)

pub loop-value-init : goal.loop-value-init
unfolding number_fields
loop-value-init c =
    let counted : number_count c.args.letter ≡ Some c.in_ok-count.count = sym c.number_count.ensures ∙ c.in_ok-count.ensures.ok_part in
    (few_numbers c.args.letter _ counted, rw counted (grind (arith, common_steps)))

pub loop-value-preserved : goal.loop-value-preserved
loop-value-preserved c =
    let count = c.in_ok-count.count in
    let n = c.loop-value.value-index in
    let inside : n < length c.loop-value.value-items = omega arith in
    let some : count - n ≡ suc (count - (n + 1)) = omega (arith, length-take-le {A = ℕ} count (0 ∷ 0 ∷ 0 ∷ []) c.loop-value.invariant.0) in (
      c.loop-value.invariant.0,
      c.loop-value.invariant.1 ∙ rw some (one_number _ _ _ _ _ _ _ _ _ (sym c.number_field.ensures ∙ c.in-Some.is) inside),
    )
