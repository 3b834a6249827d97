-- The plans of these cases are chosen by their arrivals, and no train of a chosen plan is needlessly late. Assumes nothing.
use Rattle.std.specs.Prelude.{◌≡◌, refl, ℕ, ◌≤◌}
use Rattle.std.proofs.Common.{arith}
use Rattle.numbers.specs.Counting.{nth}
use Rattle.model.specs.Sheet.{Sheet}
use Rattle.model.specs.Arrival.{arrival_behind, arrival}
use Rattle.model.specs.Lateness.{greatest_lateness, pair_of}
use Rattle.model.specs.Cases.{case_a}
use Rattle.model.specs.Admission.{admission, Admitted}
use Rattle.model.proofs.AdmissionLaws.{admitted_means}
use Rattle.rounds.specs.Recording.{Entry}
use Rattle.rounds.specs.Answers.{given, choose, choose_from}
use Rattle.rounds.proofs.AimLaws.{whole}
use Rattle.rounds.proofs.ChoosingLaws.{prompt_chosen}
use Rattle.rounds.specs.ShortCases.{empty_middle}
use Rattle.rounds.specs.PromptCases.{HasToWait, PromptCasesAre}

-- train i of a chosen plan
waits : (s : Sheet) → Admitted s → (wish : ℕ) {e : Entry} → choose s wish ≡ given e → (i : ℕ) → 1 ≤ i → i ≤ s.trains
    → HasToWait s (pair_of s e.plan.train e.plan.departure).worst i (nth e.plan.departure i) (arrival s.paths (nth e.plan.departure) i)
waits s a wish u i p m train departure h l = let w = prompt_chosen s (whole s a) wish u train departure h l i p m in (w.leaves, w.arrives)

a_admitted : Admitted case_a
unfolding admission
a_admitted = (admitted_means case_a).0 refl

middle_admitted : Admitted empty_middle
unfolding admission
middle_admitted = (admitted_means empty_middle).0 refl

pub prompt_cases_are : PromptCasesAre
unfolding choose_from arrival_behind greatest_lateness
prompt_cases_are =
    record {
      last_plan = waits case_a a_admitted 130 refl 2 (omega arith) (omega arith);
      first_plan = waits case_a a_admitted 110 refl 2 (omega arith) (omega arith);
      empty_train = waits empty_middle middle_admitted 190 refl 2 (omega arith) (omega arith);
    }
