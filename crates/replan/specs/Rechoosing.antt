-- THE CONTRACT OF THE SECOND CALL OF REPLANNING (document 02, No. 13), on the sheet s, the gone part g and a wished arrival, with the reply r, and the areas
-- for trains and times as left and as found. They hold the whole plan, gone trains and orders included.
use Rattle.std.specs.Prelude.{◌≡◌, ◌↔◌, List, ℕ, ◌≤◌, ◌<◌}
use Rattle.model.specs.Sheet.{Sheet, places}
use Rattle.model.specs.Memory.{window_sheet}
use Rattle.model.specs.Booking.{Booked}
use Rattle.model.specs.Lateness.{Pair}
use Rattle.model.specs.Refusal.{of_reply, number_of, returned_of}
use Rattle.model.specs.Admission.{Admitted}
use Rattle.model.specs.Gone.{Gone, Begins, EmptyTrainsBehind, WentWell}
use Rattle.model.specs.Replies.{ChoiceReply}
use Rattle.model.specs.declared.Row.{Row}
use Rattle.rounds.specs.Areas.{PlanAreas, PlanRoom}
use Rattle.rounds.specs.EntryPlan.{EntryPlanAmong}
use Rattle.rounds.specs.Prompt.{Prompt}
use Rattle.rounds.specs.ChosenPair.{BestAmong, TooEarlyAmong}
use Rattle.rounds.specs.Replan.{relist, rechoose_to}
use Rattle.rounds.specs.Told.{ChoiceTold}
use Rattle.front.specs.Chosen.{LastListed}
use Rattle.planner.specs.InAreas.{plan_in}
use Rattle.planner.specs.Choosing.{Gives}
use Rattle.gone.specs.GonePart.{gone_part}
use Rattle.replan.specs.declared.WindowsAt.{WindowsAt}

pub record RechoosingCall (s : Sheet) (g : Gone) (wish : ℕ) (r : ChoiceReply) (left found : PlanAreas) : Type 0 where
  -- "each planning call is to state this as an equality, refusals too": the reply and both areas, the rest of each as found
  pub equal : ChoiceTold s (rechoose_to s g wish found) r left found
  -- the plan in the areas begins with the gone trains, and the pair given is its own: "the worst lateness counts the gone orders too"
  pub begins : (p : Pair) → Gives r p → EntryPlanAmong s (Begins s g) (record { pair = p; plan = plan_in s left })
  -- document 02, No. 2, "The window of each departure"
  pub booked : (p : Pair) → Gives r p → Booked s (plan_in s left).departure (plan_in s left).window
  -- document 02, No. 5: an empty train that has not gone waits only for gap, window and minute
  pub empty_trains : (p : Pair) → Gives r p → EmptyTrainsBehind s g (plan_in s left).train (plan_in s left).departure
  -- "and No. 11's for the plans made here": no train of the plan is needlessly late, beside the schedules that begin so
  pub prompt : (p : Pair) → Gives r p → Prompt s (Begins s g) (plan_in s left).train (plan_in s left).departure
  -- "the last listed pair not later than it"
  pub listed : (p : Pair) → Gives r p → LastListed (relist s g) wish p
  -- "and none that arrives in time has a smaller worst lateness"
  pub best : (p : Pair) → Gives r p → BestAmong s (Begins s g) wish p
  -- "21 .. tested after 10": exactly when the gone part is not well, of a sheet that passes 4, 5, 2, 6, 7 and 10
  pub twenty_one : Admitted s → PlanRoom s found → number_of (of_reply r) ≡ 21 ↔ (¬ WentWell s g)
  -- "with demand 3's words on 8": exactly when no schedule begins so, also where "the orders left outnumber the other trains' places"
  pub eight : Admitted s → PlanRoom s found → WentWell s g → number_of (of_reply r) ≡ 8 ↔ ((train departure : List ℕ) → ¬ Begins s g train departure)
  -- "11 included": exactly when there is one, and none of them arrives by the wish
  pub eleven : Admitted s → PlanRoom s found → WentWell s g → number_of (of_reply r) ≡ 11 ↔ TooEarlyAmong s (Begins s g) wish
  -- document 02, No. 5: "refusal 7 is given only if the capacities add up to less than n"
  pub seven : number_of (of_reply r) ≡ 7 → places s.capacity s.trains < s.orders
  -- "A number added later returns 0 and changes nothing lent", as do the others
  pub returns_zero : returned_of (of_reply r) ≡ 0
  pub as_found : 1 ≤ number_of (of_reply r) → left ≡ found

-- of a sheet of the window form at a minute
abbrev pub RechosenAt : WindowsAt → (wish : ℕ) → (departure : List ℕ) → List Row → ChoiceReply → (left found : PlanAreas) → Type 0
RechosenAt x wish departure rows = RechoosingCall (window_sheet x.sheet) (gone_part departure rows x.minute) wish
