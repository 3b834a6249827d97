-- `lowering::lateness::lateness_on` meets its contract: within these bounds the machine's difference and product are those of the integers. Assumes
-- nothing.
-- the machine's difference and product, as the definition has them
use mathlib.Core.Path.{◌≡◌, ap, ◌∙◌}
use Prim.Native.Nat.{ℕ, ◌≤◌, ◌<◌, ◌^◌}
use native.Mathlib.Nat.{mul-le-mul}
use native.Mathlib.Omega.{arith}
use lib.IntN.{pos, sub_ℕ, ◌-ℤ◌, ◌*ℤ◌}
use mir.Facts.{to_z_pos, to_z-of_z}
use mir.Val.{SFits, to_z, of_z}
use mir.Syntax.{w64}
use Rattle.numbers.specs.SignedLaws.{pos_sub, sub_size}
use Rattle.model.specs.Lateness.{lateness}
use Rattle.model.proofs.LatenessLaws.{lateness_size}
use Rattle.lowering.proofs.LoweringStepLaws.{small_fits}
use Rattle.lowering.proofs.lateness.lateness_on.Goals as goal

module _ (w f d : ℕ) (h : (w ≤ 1000) × (f ≤ 160000) × (d ≤ 100000)) where
  read : (n : ℕ) → n ≤ 160000 → to_z w64 n ≡ pos n
  read n k = let l : n < 2 ^ 63 = omega arith in to_z_pos w64 l

  difference : SFits w64 (to_z w64 f -ℤ to_z w64 d)
  difference =
      rw (read f h.1, read d (omega (arith, h.2)), pos_sub f d)
      (record { sfits = small_fits (sub_ℕ f d) 160000 (2 ^ 63) (sub_size f d 160000 h.1 (omega (arith, h.2))) (omega arith) })

  computed : to_z w64 w *ℤ to_z w64 (of_z w64 (to_z w64 f -ℤ to_z w64 d)) ≡ lateness w f d
  unfolding lateness
  computed = rw (to_z-of_z difference, read f h.1, read d (omega (arith, h.2)), read w (omega (arith, h.0)))

  product : SFits w64 (to_z w64 w *ℤ to_z w64 (of_z w64 (to_z w64 f -ℤ to_z w64 d)))
  product =
      let size = lateness_size w f d 160000000 (mul-le-mul h.0 h.1) (omega (arith, mul-le-mul h.0 h.2)) in
      rw computed (record { sfits = small_fits (lateness w f d) 160000000 (2 ^ 63) size (omega arith) })

  whole : to_z w64 (of_z w64 (to_z w64 w *ℤ to_z w64 (of_z w64 (to_z w64 f -ℤ to_z w64 d)))) ≡ lateness w f d
  whole = to_z-of_z product ∙ computed

pub returns : goal.returns
returns c =
    let a = c.args in
    let p = c.requires in
    let f = c.of_train.result in
    rw (c.from.ensures, c.from-2.ensures, c.from-3.ensures)
    (whole a.weight f a.due (p.weight_le_most.0, omega (arith, c.of_train.ensures, p.le_i.2), p.weight_le_most.1)
    ∙ ap (λ (v : ℕ). lateness a.weight v a.due) c.of_train.ensures)
