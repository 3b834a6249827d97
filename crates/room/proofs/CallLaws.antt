-- From the tests before the rounds to a call's answer. Assumes nothing.
use Rattle.std.proofs.Math.Path.{◌≡◌, refl, ap}
use Rattle.std.proofs.Common.{sym, ◌∙◌, arith}
use Rattle.std.specs.Prelude.{Bool, true, false, cond, ℕ}
use Rattle.numbers.specs.DecidesLaws.{Decides, test_means}
use Rattle.model.specs.Sheet.{Sheet}
use Rattle.model.specs.Admission.{Admitted, admission}
use Rattle.model.proofs.AdmissionLaws.{admitted_means}
use Rattle.std.specs.Prelude.{Ok, Err}
use Rattle.model.specs.Replies.{Admission}
use Rattle.model.specs.declared.Refusal.{Refusal}
use Rattle.model.specs.declared.Refusal.TheVariants.{AreaTooShort}
use Rattle.rounds.specs.Answers.{Answer, refused, given}
use Rattle.rounds.specs.Areas.{after_admission, tested, after_tests}
use Rattle.rounds.specs.Told.{Told}

-- ---- the tests

-- what tests 4, 5, 2, 6, 7 refuse
pub tested_first : (s : Sheet) (room : Bool) (r : Refusal) → Err r ≡ admission s → Err r ≡ tested s room
unfolding tested after_admission
tested_first s room r e = ap (after_admission room) e

-- where they grant: 10, of areas of which it is asked whether they have room
pub tested_room : (s : Sheet) {asked room : Bool} {t : Admission} → Ok tt ≡ admission s → t ≡ cond asked (Ok tt) (Err AreaTooShort) → asked ≡ room
    → t ≡ tested s room
unfolding tested after_admission
tested_room s {room = room} granted e same = e ∙ rw same (ap (after_admission room) granted)

-- a sheet that passes is admitted, and the areas have room
pub passed : (s : Sheet) (room : Bool) → tested s room ≡ Ok tt → Admitted s × (room ≡ true)
unfolding tested after_admission
passed s room e = go (admission s) refl e
  where
    long : (b : Bool) → ◌≡◌ {A = Admission} (cond b (Ok tt) (Err AreaTooShort)) (Ok tt) → b ≡ true
    long true u = refl
    long false u = absurd (let z : ◌≡◌ {A = ℕ} 0 1 = cc in omega arith)

    go : (a : Admission) → admission s ≡ a → after_admission room a ≡ Ok tt → Admitted s × (room ≡ true)
    go (Ok _) u v = ((admitted_means s).0 u, long room v)
    go (Err r) u v = absurd (let z : ◌≡◌ {A = ℕ} 0 1 = cc in omega arith)

-- so where the tests say t
pub admitted : (s : Sheet) (room : Bool) (t : Admission) → t ≡ tested s room → t ≡ Ok tt → Admitted s
admitted s room t is e = (passed s room (sym is ∙ e)).0

pub has_room : {P : Type 0} (s : Sheet) {room : Bool} → Decides P room → (t : Admission) → t ≡ tested s room → t ≡ Ok tt → P
has_room s {room} d t is e = test_means d (passed s room (sym is ∙ e)).1

pub passes : (s : Sheet) (room : Bool) → Admitted s → room ≡ true → tested s room ≡ Ok tt
unfolding tested after_admission
passes s room a e = rw e (ap (after_admission true) ((admitted_means s).1 a))

-- ---- the answer

module _ {A : Type 0} (s : Sheet) (room : Bool) (x : Answer A) where
  -- what the tests refuse
  pub answer_refused : (r : Refusal) → tested s room ≡ Err r → after_tests (tested s room) x ≡ refused r
  unfolding after_tests
  answer_refused r e = ap (λ (t : Admission). after_tests t x) e

  -- what the rounds answer
  pub answer_granted : tested s room ≡ Ok tt → after_tests (tested s room) x ≡ x
  unfolding after_tests
  answer_granted e = ap (λ (t : Admission). after_tests t x) e

  -- an accepted call has passed the tests, and the rounds give what it gives
  pub accepted : {y : A} → after_tests (tested s room) x ≡ given y → (tested s room ≡ Ok tt) × (x ≡ given y)
  unfolding after_tests
  accepted {y} e = go (tested s room) refl e
    where
      go : (t : Admission) → tested s room ≡ t → after_tests t x ≡ given y → (tested s room ≡ Ok tt) × (x ≡ given y)
      go (Ok _) u v = (u, v)
      go (Err r) u v = absurd (let z : ◌≡◌ {A = ℕ} 0 1 = cc in omega arith)

-- ---- what is told before the rounds, and after them

module _ {A R L : Type 0} (replies : Answer A → R) (leaves : Answer A → L → L) (s : Sheet) (room : Bool) (x : Answer A) (found : L) (t : Admission)
    (is : t ≡ tested s room) where
  -- a refusal, and the areas as found
  pub told_first : (f : Refusal) → t ≡ Err f → leaves (refused f) found ≡ found
      → Told replies leaves (after_tests (tested s room) x) (replies (refused f)) found found
  told_first f e stays = rw (answer_refused s room x f (sym is ∙ e)) (record { replied = refl; areas_left = sym stays })

  -- what the rounds tell is what the call tells
  pub told_then : t ≡ Ok tt → (r : R) (left : L) → Told replies leaves x r left found → Told replies leaves (after_tests (tested s room) x) r left found
  told_then e r left told = rw (answer_granted s room x (sym is ∙ e)) told
