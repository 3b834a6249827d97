-- WHAT HOLDS OF EACH RECORDED ENTRY (proved in InvariantLaws.antt).
use Rattle.std.specs.Prelude.{◌≡◌, ℕ, ◌≤◌, length}
use Rattle.numbers.specs.Counting.{nth}
use Rattle.model.specs.Sheet.{Sheet}
use Rattle.model.specs.Schedule.{Schedule, Schedules}
use Rattle.model.specs.Arrival.{arrival}
use Rattle.model.specs.Lateness.{pair_of}
use Rattle.model.specs.Booking.{Booked}
use Rattle.model.specs.ShortTrains.{EmptyTrains}
use Rattle.rounds.specs.Recording.{Entry}
use Rattle.rounds.specs.Prompt.{Prompt}

-- "record the pair (F_q, z) and this plan": the plan is one of the schedules `Among`, with the model's arrivals, and the pair is its own
pub record EntryPlanAmong (s : Sheet) (Among : Schedules) (e : Entry) : Type 0 where
  pub schedule : Among e.plan.train e.plan.departure
  -- one arrival a train, as the model has it
  pub arrives : length e.plan.arrival ≡ s.trains
  pub arrivals : (i : ℕ) → 1 ≤ i → i ≤ s.trains → nth e.plan.arrival i ≡ arrival s.paths (nth e.plan.departure) i
  pub pair : pair_of s e.plan.train e.plan.departure ≡ e.pair

-- among all schedules of the sheet
abbrev pub EntryPlan : Sheet → Entry → Type 0
EntryPlan s = EntryPlanAmong s (Schedule s)

-- document 02, No. 2: the windows of the plan are those of its departures
abbrev pub EntryBooked : Sheet → Entry → Type 0
EntryBooked s e = Booked s e.plan.departure e.plan.window

-- document 02, No. 5: the empty trains of the plan wait only for gap and window
abbrev pub EntryEmptyTrains : Sheet → Entry → Type 0
EntryEmptyTrains s e = EmptyTrains s e.plan.train e.plan.departure

-- document 02, No. 11: no train of the plan is needlessly late, beside the schedules `Among`
abbrev pub EntryPromptAmong : (s : Sheet) (Among : Schedules) → Entry → Type 0
EntryPromptAmong s Among e = Prompt s Among e.plan.train e.plan.departure

-- beside all schedules of the sheet
abbrev pub EntryPrompt : Sheet → Entry → Type 0
EntryPrompt s = EntryPromptAmong s (Schedule s)
