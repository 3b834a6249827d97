-- A line without a fault passed every test, and so did a text. Assumes nothing.
use Rattle.std.specs.Prelude.{◌≡◌, refl, Bool, true, false, ◌||◌, ℕ, ◌<◌, eqb}
use Rattle.std.proofs.Common.{arith, eqb-true}
use Rattle.model.specs.declared.Refusal.{Refusal}
use Rattle.model.specs.Admission.{passed}
use Rattle.rows.specs.Faults.{first_fault, last_fault}
use Rattle.rows.specs.declared.LineTests.{LineTests}
use Rattle.std.specs.Prelude.{Ok, Err}
use Rattle.model.specs.Replies.{Admission}

pub refused_not_granted : {A : Type 0} {r : Refusal} → ◌≡◌ {A = Admission} (Err r) (Ok tt) → A
refused_not_granted e = let z : ◌≡◌ {A = ℕ} 0 1 = cc in absurd (omega arith)

pub passed_granted : (b : Bool) (r : Refusal) (next : Admission) → passed b r next ≡ Ok tt → (b ≡ true) × (next ≡ Ok tt)
passed_granted true r next e = (refl, e)
passed_granted false r next e = refused_not_granted e

pub record NoFault (t : LineTests) : Type 0 where
  pub late : t.late_enough ≡ true
  pub few : t.few ≡ true
  pub ranged : t.in_range ≡ true
  pub ordered : t.in_order ≡ true

pub no_fault : (line : ℕ) (t : LineTests) → first_fault line t ≡ Ok tt → NoFault t
unfolding first_fault
no_fault line t e₃ =
    let (p₃, e₄) = passed_granted t.late_enough _ _ e₃ in
    let (p₄, e₂) = passed_granted t.few _ _ e₄ in
    let (p₂, e₆) = passed_granted t.in_range _ _ e₂ in
    let (p₆, e) = passed_granted t.in_order _ _ e₆ in
    record { late = p₃; few = p₄; ranged = p₂; ordered = p₆ }

pub no_last_fault : (complete roomy : Bool) → last_fault complete roomy ≡ Ok tt → (complete ≡ true) × (roomy ≡ true)
unfolding last_fault
no_last_fault complete roomy e₅ =
    let (p₅, e₇) = passed_granted complete _ _ e₅ in
    let (p₇, e) = passed_granted roomy _ _ e₇ in
    (p₅, p₇)

-- a test that the first of a kind need not pass
pub after_first : (n : ℕ) (b : Bool) → eqb n 0 || b ≡ true → 0 < n → b ≡ true
after_first n b e l = go (eqb n 0) refl e
  where
    go : (t : Bool) → eqb n 0 ≡ t → t || b ≡ true → b ≡ true
    go true f g = absurd (omega (arith, eqb-true n 0 f))
    go false f g = g
