-- `test_sheet` meets its contract: test 4 refuses, and else `first_refusal` gives what the other tests leave. Assumes nothing.
use Rattle.std.proofs.Common.{◌≡◌, Bool, true, sym, ◌∙◌}
use Rattle.numbers.specs.DecidesLaws.{test_means}
use Rattle.model.specs.Sheet.{Sheet}
use Rattle.model.specs.Admission.{Few, few, complete, in_range, is_in_order, roomy, admission}
use Rattle.model.specs.Replies.{Admission}
use Rattle.model.proofs.AdmissionLaws.{decides_few}
use Rattle.admission.specs.FirstRefusal.{first_refusal}
use Rattle.admission.proofs.test_sheet.Goals as goal

few_passed : (s : Sheet) {b : Bool} → b ≡ few s → b ≡ true → few s ≡ true
few_passed s e h = sym e ∙ h

few_holds : (s : Sheet) {b : Bool} → b ≡ few s → b ≡ true → Few s
few_holds s e h = test_means (decides_few s) (few_passed s e h)

-- a sheet that passes test 4 has the answer of the other tests
others : (s : Sheet) → few s ≡ true → first_refusal (complete s) (in_range s) (is_in_order s) (roomy s) ≡ admission s
unfolding admission
others s h = rw h

-- what the tests of this sheet say together
said : (s : Sheet) {four five two six seven : Bool} {a : Admission} → four ≡ few s → four ≡ true → five ≡ complete s → two ≡ in_range s
    → six ≡ is_in_order s → seven ≡ roomy s → a ≡ first_refusal five two six seven → a ≡ admission s
said s four passed five two six seven e = e ∙ (rw (five, two, six, seven) (others s (few_passed s four passed)))

pub returns-then-not-few : goal.returns-then-not-few
unfolding admission
returns-then-not-few c = rw (sym c.few.ensures ∙ c.if-not-few.true)

pub in_range-in_range-requires : goal.in_range-in_range-requires
in_range-in_range-requires c = few_holds _ c.few.ensures c.if-not-few.false

pub in_order-in_order-requires : goal.in_order-in_order-requires
in_order-in_order-requires c = few_holds _ c.few.ensures c.if-not-few.false

pub roomy-roomy-requires : goal.roomy-roomy-requires
roomy-roomy-requires c = few_holds _ c.few.ensures c.if-not-few.false

pub returns : goal.returns
returns c =
    said _ c.few.ensures c.if-not-few.false c.complete-complete.ensures c.in_range-in_range.ensures c.in_order-in_order.ensures c.roomy-roomy.ensures
    c.first_refusal.ensures
