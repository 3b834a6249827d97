-- THE CALLS OF A SEARCH THAT IS WATCHED, IN WHATEVER ORDER. "For every list of these calls after an accepted start".
use Rattle.std.specs.Prelude.{◌≡◌, ℕ, ◌≤◌}
use Rattle.model.specs.Sheet.{Sheet}
use Rattle.model.specs.Schedule.{Schedule}
use Rattle.std.specs.Prelude.{Result, Ok}
use Rattle.model.specs.declared.RoundReply.TheVariants.{GoesOn}
use Rattle.rounds.specs.Recording.{listed}
use Rattle.rounds.specs.Prompt.{Prompt}
use Rattle.rounds.specs.Rounds.{recorded_after}
use Rattle.rounds.specs.RoundsBound.{rounds_bound}
use Rattle.rounds.specs.Answers.{list, last_listed, choose}
use Rattle.rounds.specs.Areas.{list_left, plan_left}
use Rattle.rounds.specs.ByRound.{SearchAreas, Calls, started, then_round, then_look, round_calls, Then, search_by, end_of, said, Final}
use Rattle.planner.specs.InAreas.{pairs_in, plan_in}
use Rattle.watch.specs.Calls.{StartCall, RoundCall, LookCall}
use Rattle.watch.specs.declared.State.{State}
use Rattle.model.specs.declared.Refusal.{Refusal}
use Rattle.watch.specs.declared.Moved.{Moved}

-- calls that were made, each by its contract: "each of its calls is given the same ones and the state that the call before gave back". The state and the areas
-- are those after the last one.
pub data Made (s : Sheet) (lent : SearchAreas) : Calls → State → SearchAreas → Type 0 where
  starts : {r : Result State Refusal} {x : State} → StartCall s lent r → r ≡ Ok x → Made s lent started x lent
  moves : {calls : Calls} {state : State} {found left : SearchAreas} {r : Moved} → Made s lent calls state found → RoundCall s state r left found
      → Made s lent (then_round calls) r.state left
  looks : {calls : Calls} {state : State} {found : SearchAreas} {count : ℕ} → Made s lent calls state found → LookCall state found.pairs count
      → Made s lent (then_look calls) state found

-- the end, "with the list, last plan and count of the unbroken search, or its 8"
pub record AsUnbroken (s : Sheet) (lent : SearchAreas) (calls : Calls) (left : SearchAreas) : Type 0 where
  pub says : said (search_by s calls) ≡ end_of (list s)
  pub pairs : left.pairs ≡ list_left (list s) lent.pairs
  pub plan : left.plan ≡ plan_left s (choose s (last_listed (list s))) lent.plan

pub record AfterCalls (s : Sheet) (lent : SearchAreas) (calls : Calls) (state : State) (left : SearchAreas) : Type 0 where
  -- a look "gives the list that document 01's rounds made so far have recorded"
  pub look : (count : ℕ) → LookCall state left.pairs count → pairs_in count left.pairs ≡ listed (recorded_after s (round_calls calls))
  -- "All pairs read but the last are final; the last may only be replaced by one with the same arrival and a smaller lateness."
  pub final : (later : Calls) (then_state : State) (then_left : SearchAreas) → Then calls later → Made s lent later then_state then_left
      → (count then_count : ℕ) → LookCall state left.pairs count → LookCall then_state then_left.pairs then_count
      → Final (pairs_in count left.pairs) (pairs_in then_count then_left.pairs)
  -- a round call says that the search goes on, or the end
  pub says : (r : Moved) (next : SearchAreas) → RoundCall s state r next left → r.reply ≡ said (search_by s (then_round calls))
  -- "A further round after the end changes nothing and says that it has ended."
  pub further : ¬ (said (search_by s calls) ≡ GoesOn) → (r : Moved) (next : SearchAreas) → RoundCall s state r next left
      → (r.state ≡ state) × (next ≡ left) × (r.reply ≡ said (search_by s calls))
  -- document 02, No. 6: "the round-by-round search ends within the same figure"
  pub ends : rounds_bound s ≤ round_calls calls → ¬ (said (search_by s calls) ≡ GoesOn)
  pub as_unbroken : ¬ (said (search_by s calls) ≡ GoesOn) → AsUnbroken s lent calls left
  -- document 02, No. 11: where a pair is recorded, no train of the plan in the areas is needlessly late
  pub prompt : 1 ≤ state.pairs → Prompt s (Schedule s) (plan_in s left.plan).train (plan_in s left.plan).departure
