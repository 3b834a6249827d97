-- DOCUMENT 02, NO. 3: "Every plan that our own planner makes gets a yes", of the calls. The plan that a choosing call leaves in the areas, for whatever wish,
-- is a yes of a checking call, with the pair that was given, and is listed; its rows may stand in whatever order. Assumes nothing.
use Rattle.std.specs.Prelude.{◌≡◌, true, List, ℕ, ℤ}
use Rattle.std.proofs.Common.{sym, ◌∙◌}
use Rattle.std.proofs.Math.Path.{ap, subst}
use Rattle.std.proofs.Math.ListN.{length}
use Rattle.model.specs.Sheet.{Sheet}
use Rattle.model.specs.Lateness.{Pair}
use Rattle.model.specs.Foreign.{RowsTell}
use Rattle.model.specs.declared.Row.{Row}
use Rattle.model.specs.Replies.{ChoiceReply, CheckReply}
use Rattle.rounds.specs.Recording.{Plan}
use Rattle.rounds.specs.Areas.{ListRoom, PlanAreas}
use Rattle.rounds.specs.Answers.{given}
use Rattle.rounds.specs.Checking.{check, check_reply}
use Rattle.front.proofs.Front.{own_plan_listed}
use Rattle.planner.specs.InAreas.{plan_in}
use Rattle.planner.specs.Choosing.{Gives, ChoosingCall}
use Rattle.planner.proofs.ChoosingLaws.{accepts}
use Rattle.checker.specs.Checking.{SaysYes, CheckingCall}
use Rattle.checker.proofs.CheckingLaws.{check_of_rows}

module _ (s : Sheet) (wish : ℕ) (choice : ChoiceReply) (areas areas_found : PlanAreas) (chosen : ChoosingCall s wish choice areas areas_found)
    (p : Pair) (gives : Gives choice p) where
  -- the plan in the areas
  abbrev plan : Plan
  plan = plan_in s areas

  pub own_plan_checked : (rows : List Row) → RowsTell s plan.train plan.departure rows → (r : CheckReply) (left found : List ℤ) → ListRoom s found
      → CheckingCall s plan.departure rows r left found → (y : SaysYes r) × (y.pair ≡ p) × (y.listed ≡ true)
  unfolding check_reply
  own_plan_checked rows tell r left found room call =
      let c = accepts s wish choice areas areas_found chosen.equal p gives in
      let a = c.admitted in
      let (v, is, pair, listed) = own_plan_listed s a wish c.entry c.is rows
      (subst (λ (x : Plan). RowsTell s x.train x.departure rows) c.plan tell) in
      let here : check s plan.departure rows ≡ given v = subst (λ (x : Plan). check s x.departure rows ≡ given v) (sym c.plan) is in (
        record {
          pair = v.pair;
          listed = v.is_listed;
          pairs = length v.listing.pairs;
          rounds = v.listing.rounds;
          is = call.equal.replied ∙ ap check_reply (check_of_rows s plan.departure rows found a room ∙ here);
        },
        pair ∙ c.pair,
        listed,
      )
