-- The choice that is held, from round to round. Assumes nothing.
use Rattle.std.specs.Prelude.{◌≡◌, false, ℕ, ◌≤◌, ◌<◌}
use Rattle.std.proofs.Math.Path.{refl, ap, subst}
use Rattle.std.proofs.Common.{sym, ◌∙◌, arith}
use mathlib.Core.List.{List, [], ◌∷◌, ◌++◌}
use Rattle.std.proofs.Math.ListN.{length}
use Rattle.numbers.specs.DecidesLaws.{decides_le, test_true, test_false}
use Rattle.numbers.specs.OneMoreLaws.{All, more_length}
use Rattle.numbers.specs.Over.{over}
use Rattle.numbers.specs.OverLaws.{over_over}
use Rattle.model.specs.Sheet.{Sheet}
use Rattle.std.specs.Prelude.{Err}
use Rattle.model.specs.Replies.{ChoiceReply, chosen_as}
use Rattle.model.specs.declared.Refusal.TheVariants.{NoSchedule}
use Rattle.rounds.specs.Recording.{Entry, record_entry, no_entry, last_entry}
use Rattle.rounds.proofs.RecordingLaws.{FromEnd, nothing, behind, from_end, record_all, record_lengthens, last_recorded}
use Rattle.rounds.specs.EntryPlan.{EntryPlan}
use Rattle.rounds.specs.Answers.{Answer, refused, given, chosen}
use Rattle.rounds.specs.Areas.{PlanAreas, choice_reply, plan_times, plan_left}
use Rattle.rounds.proofs.AreaLaws.{plan_times_length}
use Rattle.rounds.proofs.InTimeLaws.{chosen_at}
use Rattle.rounds.proofs.ChoosingLaws.{all_in_time, later_first, later_leaves}
use Rattle.rounds.specs.Told.{areas, ChoiceTold}
use Rattle.planner.specs.Outcome.{choice_so}
use Rattle.planner.specs.SoFar.{Holds}

-- a plan written over what the answer x has left is what its own answer leaves
pub writes_over : (s : Sheet) (found : PlanAreas) (e : Entry) → EntryPlan s e → (x : Answer Entry) → ((e₀ : Entry) → x ≡ given e₀ → EntryPlan s e₀)
    → (before : PlanAreas) → before ≡ plan_left s x found
    → record {
      trains = over e.plan.train before.trains;
      times = over (plan_times s e.plan) before.times;
    } ≡ plan_left s (given e) found
unfolding plan_left
writes_over s found e own (refused r) plans before is = rw is
writes_over s found e own (given e₀) plans before is =
    let own₀ = plans e₀ refl in
    let same = own₀.schedule.placed ∙ sym own.schedule.placed in
    let many = plan_times_length s e.plan in
    let many₀ = plan_times_length s e₀.plan in
    rw (
      is,
      over_over e.plan.train e₀.plan.train found.trains (omega (arith, same)),
      over_over (plan_times s e.plan) (plan_times s e₀.plan) found.times (omega (arith, many, many₀)),
    )
    refl

module _ (s : Sheet) (wish : ℕ) where
  -- before the first round nothing is chosen
  pub nothing_held : (found : PlanAreas) → Holds s wish (Err NoSchedule) found found 0 []
  unfolding chosen choice_reply plan_left
  nothing_held found =
      record {
        told = rw (test_true (decides_le 0 wish) (omega arith)) (record { replied = refl; areas_left = refl });
        in_time = λ l k u. absurd (omega arith);
      }

  module _ (choice : ChoiceReply) (left found : PlanAreas) (last : ℕ) (entries : List Entry) (h : Holds s wish choice left found last entries)
      (early : last ≤ wish) where
    -- while the last one is in time the choice is told as it is
    told_now : ChoiceTold s (chosen wish entries) choice left found
    told_now =
        subst (λ (r : ChoiceReply). ChoiceTold s (chosen wish entries) r left found)
        (ap (choice_so choice) (test_true (decides_le last wish) early)) h.told

    -- what is chosen is one of the entries
    chosen_plan : All no_entry (EntryPlan s) entries → (e₀ : Entry) → chosen wish entries ≡ given e₀ → EntryPlan s e₀
    chosen_plan plans e₀ is = let h = chosen_at wish entries e₀ is in subst (EntryPlan s) h.is (plans h.place h.among)

    -- a plan in time is recorded and written: it is the choice
    pub takes : (e : Entry) → e.pair.last ≤ wish → EntryPlan s e → All no_entry (EntryPlan s) entries → (trains times : List ℕ)
        → trains ≡ over e.plan.train left.trains
        → times ≡ over (plan_times s e.plan) left.times
        → Holds s wish (chosen_as e.pair.last e.pair.worst) (areas trains times) found e.pair.last (record_entry entries e)
    unfolding choice_reply
    takes e timely own plans trains times trains_are times_are =
        let all : All no_entry (λ x. x.pair.last ≤ wish) (record_entry entries e) =
        record_all (λ x. x.pair.last ≤ wish) entries e (h.in_time early) timely in
        let is : chosen wish (record_entry entries e) ≡ given e =
        all_in_time wish (record_entry entries e) (record_lengthens entries e).not_empty all ∙ ap given (last_recorded entries e) in
        let written = writes_over s found e own (chosen wish entries) (chosen_plan plans) left told_now.areas_left in
        record {
          told = rw (is, test_true (decides_le e.pair.last wish) timely)
              (record { replied = refl; areas_left = rw (trains_are, times_are) written });
          in_time = λ l. all;
        }

    -- a later one is recorded: the choice stays
    pub leaves : (e : Entry) → wish < e.pair.last → Holds s wish choice left found e.pair.last (record_entry entries e)
    unfolding choice_reply plan_left chosen
    leaves e late =
        record {
          told = rw (test_false (decides_le e.pair.last wish) (λ l. omega arith)) (go entries (from_end entries) (h.in_time early) told_now);
          in_time = λ l. absurd (omega arith);
        }
      where
        go : (es : List Entry) → FromEnd es → All no_entry (λ x. x.pair.last ≤ wish) es → ChoiceTold s (chosen wish es) choice left found
            → ChoiceTold s (chosen wish (record_entry es e)) (choice_so choice false) left found
        go es nothing all t = rw (later_first wish e late, t.replied) (record { replied = refl; areas_left = t.areas_left })
        go es (behind before e₀) all t =
            let some : 1 ≤ length (before ++ (e₀ ∷ [])) = omega (arith, more_length no_entry before e₀) in
            let is : chosen wish (before ++ (e₀ ∷ [])) ≡ given (last_entry (before ++ (e₀ ∷ []))) = all_in_time wish (before ++ (e₀ ∷ [])) some all in
            let told = subst (λ (x : Answer Entry). ChoiceTold s x choice left found) is t in
            rw (later_leaves wish (before ++ (e₀ ∷ [])) e some late, is, told.replied) (record { replied = refl; areas_left = told.areas_left })
