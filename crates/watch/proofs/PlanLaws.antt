-- The plan that stands in the areas between two calls. Assumes nothing.
use Rattle.std.specs.Prelude.{◌≡◌, ◌≤◌}
use Rattle.std.proofs.Common.{sym, ◌∙◌, subst, arith}
use Rattle.std.proofs.Math.Path.{ap}
use Rattle.model.specs.Sheet.{Sheet}
use Rattle.model.specs.Schedule.{Schedule}
use Rattle.rounds.specs.Recording.{Plan, Entry, last_entry}
use Rattle.rounds.specs.EntryPlan.{EntryPlan, EntryBooked}
use Rattle.rounds.specs.Prompt.{Prompt}
use Rattle.rounds.specs.Rounds.{recorded_in}
use Rattle.rounds.proofs.AimLaws.{whole}
use Rattle.rounds.proofs.InvariantLaws.{entry_plans, entry_booked}
use Rattle.rounds.specs.Answers.{Answer, given}
use Rattle.rounds.specs.Areas.{plan_left}
use Rattle.rounds.specs.ByRound.{SearchAreas, Calls, search_by, last_plan, areas_by}
use Rattle.rounds.proofs.ByRoundLaws.{last_plan_given, last_plan_so}
use Rattle.front.proofs.Front.{watched_prompt}
use Rattle.planner.specs.InAreas.{plan_in}
use Rattle.planner.proofs.InAreasLaws.{plan_read}
use Rattle.watch.specs.LeftBy.{LeftBy}
use Rattle.watch.specs.declared.State.{State}

-- of a state and areas that these calls left, where a pair is recorded
module _ (s : Sheet) (lent : SearchAreas) (calls : Calls) (state : State) (left : SearchAreas) (h : LeftBy s lent calls state left)
    (some : 1 ≤ state.pairs) where
  abbrev e : Entry
  e = last_entry (recorded_in (search_by s calls))

  last_is : last_plan (recorded_in (search_by s calls)) ≡ given e
  last_is = last_plan_given (recorded_in (search_by s calls)) (omega (arith, h.pairs_are))

  -- the plan that is read is that of the pair recorded last
  plan_here : plan_in s left.plan ≡ e.plan
  unfolding areas_by
  plan_here =
      let area : left.plan ≡ plan_left s (given e) lent.plan =
      ap (λ (x : SearchAreas). x.plan) h.areas_are ∙ ap (λ (x : Answer Entry). plan_left s x lent.plan) last_is in
      ap (plan_in s) area
      ∙ plan_read s e lent.plan (last_plan_so s (EntryPlan s) (entry_plans s (whole s h.admitted)) calls e last_is)
      (last_plan_so s (EntryBooked s) (entry_booked s (whole s h.admitted)) calls e last_is)

  -- NO TRAIN OF IT IS NEEDLESSLY LATE
  pub prompt_here : Prompt s (Schedule s) (plan_in s left.plan).train (plan_in s left.plan).departure
  prompt_here =
      subst (λ (x : Plan). Prompt s (Schedule s) x.train x.departure) (sym plan_here) (watched_prompt s h.admitted calls e last_is)
