-- THE CONTRACT OF A CHOOSING CALL on the sheet s and a wished arrival, with the reply r, and the areas for trains and times as left and as found.
use Rattle.std.specs.Prelude.{◌≡◌, ◌↔◌, List, ℕ, ◌≤◌, ◌<◌}
use Rattle.model.specs.Sheet.{Sheet, places}
use Rattle.model.specs.Schedule.{Schedule}
use Rattle.model.specs.Booking.{Booked}
use Rattle.model.specs.ShortTrains.{EmptyTrains}
use Rattle.model.specs.Lateness.{Pair}
use Rattle.model.specs.Refusal.{of_reply, number_of, returned_of}
use Rattle.model.specs.Admission.{Admitted}
use Rattle.model.specs.Replies.{ChoiceReply, chosen_as}
use Rattle.rounds.specs.Areas.{PlanAreas, PlanRoom, choose_to}
use Rattle.rounds.specs.EntryPlan.{EntryPlan}
use Rattle.rounds.specs.Prompt.{Prompt}
use Rattle.rounds.specs.ChosenPair.{Best, TooEarly}
use Rattle.rounds.specs.Told.{ChoiceTold}
use Rattle.front.specs.Chosen.{ChosenListed}
use Rattle.planner.specs.InAreas.{plan_in}

-- the pair p is given
abbrev pub Gives : ChoiceReply → Pair → Type 0
Gives r p = r ≡ chosen_as p.last p.worst

pub record ChoosingCall (s : Sheet) (wish : ℕ) (r : ChoiceReply) (left found : PlanAreas) : Type 0 where
  -- "each planning call is to state this as an equality, refusals too": the reply and both areas, the rest of each as found
  pub equal : ChoiceTold s (choose_to s wish found) r left found
  -- "A chosen plan is a schedule": the areas hold it, with the model's own arrivals, and the pair given is that schedule's own
  pub schedule : (p : Pair) → Gives r p → EntryPlan s (record { pair = p; plan = plan_in s left })
  -- document 02, No. 2, "The window of each departure": train i departs within the window of its number, and within no other; of a timetable it is 0
  pub booked : (p : Pair) → Gives r p → Booked s (plan_in s left).departure (plan_in s left).window
  -- document 02, No. 5: "an empty train waits only for its gap and window"
  pub empty_trains : (p : Pair) → Gives r p → EmptyTrains s (plan_in s left).train (plan_in s left).departure
  -- document 02, No. 11: no train of the plan is needlessly late
  pub prompt : (p : Pair) → Gives r p → Prompt s (Schedule s) (plan_in s left).train (plan_in s left).departure
  -- "the last listed pair not later than it"
  pub listed : (p : Pair) → Gives r p → ChosenListed s wish p
  -- "and none that arrives in time has a smaller worst lateness"
  pub best : (p : Pair) → Gives r p → Best s wish p
  -- demand 3's "words on 8 hold for both", of a sheet that passes 4, 5, 2, 6, 7 and 10
  pub eight : Admitted s → PlanRoom s found → number_of (of_reply r) ≡ 8 ↔ ((train departure : List ℕ) → ¬ Schedule s train departure)
  -- "11, the wished arrival is before the first listed one": there is a schedule, and none arrives by the wish
  pub eleven : Admitted s → PlanRoom s found → number_of (of_reply r) ≡ 11 ↔ TooEarly s wish
  -- document 02, No. 5: "refusal 7 is given only if the capacities add up to less than n"
  pub seven : number_of (of_reply r) ≡ 7 → places s.capacity s.trains < s.orders
  -- "A number added later returns 0 and changes nothing lent", as do the others
  pub returns_zero : returned_of (of_reply r) ≡ 0
  pub as_found : 1 ≤ number_of (of_reply r) → left ≡ found
