-- WHAT THE EXPORTED PLANNING CALLS RETURN AND PROMISE, in numbers. The numbers are those of the reply that document 01's rounds give, and with that reply the
-- library's own contract holds; what that contract says follows, in the returned numbers.
use Rattle.std.specs.Prelude.{◌≡◌, ◌↔◌, List, ℕ, ◌≤◌, ◌<◌, ℤ, pos}
use Rattle.model.specs.Sheet.{Sheet, places}
use Rattle.model.specs.Schedule.{Schedule}
use Rattle.model.specs.Booking.{Booked}
use Rattle.model.specs.ShortTrains.{EmptyTrains}
use Rattle.model.specs.Lateness.{Pair}
use Rattle.model.specs.Admission.{Admitted}
use Rattle.std.specs.Prelude.{Ok, Err}
use Rattle.model.specs.Replies.{ListReply, ChoiceReply}
use Rattle.rounds.specs.EntryPlan.{EntryPlan}
use Rattle.rounds.specs.Prompt.{Prompt}
use Rattle.rounds.specs.ChosenPair.{Best, TooEarly}
use Rattle.rounds.specs.RoundsBound.{rounds_bound}
use Rattle.rounds.specs.Areas.{ListRoom, list_to, list_reply, PlanAreas, PlanRoom, choose_to, choice_reply}
use Rattle.rounds.specs.ListedPairs.{Front}
use Rattle.front.specs.Chosen.{ChosenListed}
use Rattle.planner.specs.Listing.{ListingCall}
use Rattle.planner.specs.Choosing.{ChoosingCall}
use Rattle.planner.specs.InAreas.{pairs_in, plan_in}
use Rattle.exported.specs.Exported.{no_cause, cause_of}
use Rattle.exported.specs.declared.Listing.{Listing}
use Rattle.exported.specs.declared.Choice.{Choice}

-- ---- listing

-- a listing call's reply
abbrev pub listing_of : ListReply → Listing
listing_of (Ok l) = record { cause = no_cause; pairs = l.pairs; rounds = l.rounds }
listing_of (Err r) = record { cause = cause_of r; pairs = 0; rounds = 0 }

pub record ExportedListing (s : Sheet) (r : Listing) (left found : List ℤ) : Type 0 where
  pub equal : r ≡ listing_of (list_reply (list_to s found))
  pub call : ListingCall s (list_reply (list_to s found)) left found
  -- demand 3 of an accepted call
  pub front : r.cause.number ≡ 0 → Front s (pairs_in r.pairs left)
  -- document 02, No. 6: "no search makes more rounds than that, and lists no more pairs"
  pub within : (r.pairs ≤ rounds_bound s) × (r.rounds ≤ rounds_bound s)
  -- and of a sheet that passes 4, 5, 2, 6, 7 and 10
  pub eight : Admitted s → ListRoom s found → r.cause.number ≡ 8 ↔ ((train departure : List ℕ) → ¬ Schedule s train departure)
  -- "Otherwise" it lists: "the best-list guarantee loses that premise"
  pub lists : Admitted s → ListRoom s found → ((train : List ℕ) × (departure : List ℕ) × Schedule s train departure) → r.cause.number ≡ 0
  -- document 02, No. 5: "refusal 7 is given only if the capacities add up to less than n"
  pub seven : r.cause.number ≡ 7 → places s.capacity s.trains < s.orders
  -- "always with 0 returned and every lent area as found"
  pub returns_zero : r.cause.returned ≡ 0
  pub as_found : 1 ≤ r.cause.number → left ≡ found

-- ---- choosing

-- a choosing call's reply
abbrev pub choice_of : ChoiceReply → Choice
choice_of (Ok p) = record { cause = no_cause; last = p.last; worst = p.worst }
choice_of (Err r) = record { cause = cause_of r; last = 0; worst = pos 0 }

-- the pair that is given
abbrev pub pair_given : Choice → Pair
pair_given r = record { last = r.last; worst = r.worst }

pub record ExportedChoice (s : Sheet) (wish : ℕ) (r : Choice) (left found : PlanAreas) : Type 0 where
  pub equal : r ≡ choice_of (choice_reply (choose_to s wish found))
  pub call : ChoosingCall s wish (choice_reply (choose_to s wish found)) left found
  -- of an accepted call: "A chosen plan is a schedule"
  pub schedule : r.cause.number ≡ 0 → EntryPlan s (record { pair = pair_given r; plan = plan_in s left })
  -- document 02, No. 2, "The window of each departure"
  pub booked : r.cause.number ≡ 0 → Booked s (plan_in s left).departure (plan_in s left).window
  -- document 02, No. 5: "an empty train waits only for its gap and window"
  pub empty_trains : r.cause.number ≡ 0 → EmptyTrains s (plan_in s left).train (plan_in s left).departure
  -- document 02, No. 11: no train of the plan is needlessly late
  pub prompt : r.cause.number ≡ 0 → Prompt s (Schedule s) (plan_in s left).train (plan_in s left).departure
  -- "the last listed pair not later than it", "and none that arrives in time has a smaller worst lateness"
  pub listed : r.cause.number ≡ 0 → ChosenListed s wish (pair_given r)
  pub best : r.cause.number ≡ 0 → Best s wish (pair_given r)
  -- of a sheet that passes 4, 5, 2, 6, 7 and 10
  pub eight : Admitted s → PlanRoom s found → r.cause.number ≡ 8 ↔ ((train departure : List ℕ) → ¬ Schedule s train departure)
  pub eleven : Admitted s → PlanRoom s found → r.cause.number ≡ 11 ↔ TooEarly s wish
  -- document 02, No. 5: "refusal 7 is given only if the capacities add up to less than n"
  pub seven : r.cause.number ≡ 7 → places s.capacity s.trains < s.orders
  -- "always with 0 returned and every lent area as found"
  pub returns_zero : r.cause.returned ≡ 0
  pub as_found : 1 ≤ r.cause.number → left ≡ found
