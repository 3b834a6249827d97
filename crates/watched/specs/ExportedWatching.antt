-- WHAT THE EXPORTED CALLS OF A SEARCH THAT IS WATCHED RETURN AND PROMISE, in numbers. The numbers are those of a reply with which the library's own contract
-- holds; what that contract says follows, in the returned numbers. A look is exported as it is. So a list of exported calls is one of the library's (`call`),
-- and what holds after every such list is `AfterCalls` in watch/specs/AnyCalls.antt.
use Rattle.std.specs.Prelude.{◌≡◌, ◌⊎◌, true, false, ◌*◌, ◌≤◌, ◌<◌, length, Result, Ok, Err}
use Rattle.model.specs.Sheet.{Sheet, places}
use Rattle.model.specs.Schedule.{Schedule}
use Rattle.model.specs.Limits.{numbers_a_pair}
use Rattle.model.specs.Replies.{Admission}
use Rattle.model.specs.declared.Refusal.{Refusal}
use Rattle.model.specs.declared.RoundReply.{RoundReply}
use Rattle.model.specs.declared.RoundReply.TheVariants.{GoesOn, Ended, Refused}
use Rattle.rounds.specs.Prompt.{Prompt}
use Rattle.rounds.specs.ByRound.{SearchAreas, start_to, Calls, started, then_round, search_by, said}
use Rattle.planner.specs.InAreas.{plan_in}
use Rattle.watch.specs.State.{no_state}
use Rattle.watch.specs.LeftBy.{LeftBy}
use Rattle.watch.specs.Calls.{StartCall, RoundCall}
use Rattle.watch.specs.declared.State.{State}
use Rattle.watch.specs.declared.Moved.{Moved}
use Rattle.exported.specs.Exported.{no_cause, cause_of, cause_in}
use Rattle.watched.specs.declared.Start.{Start}
use Rattle.watched.specs.declared.Round.{Round}

-- ---- a start

-- the state, or the cause beside noughts
abbrev pub start_of : Result State Refusal → Start
start_of (Ok state) = record { cause = no_cause; state = state }
start_of (Err r) = record { cause = cause_of r; state = no_state }

-- the state if the tests grant it
abbrev pub started_so : Admission → State → Result State Refusal
started_so (Ok _) state = Ok state
started_so (Err r) state = Err r

pub record ExportedStart (s : Sheet) (lent : SearchAreas) (r : Start) : Type 0 where
  pub equal : r.cause ≡ cause_in (start_to s lent)
  pub call : StartCall s lent (started_so (start_to s lent) r.state)
  -- an accepted one gives the state before the first round
  pub begins : r.cause.number ≡ 0 → LeftBy s lent started r.state lent
  -- a refused one gives none, and never 8
  pub beside : 1 ≤ r.cause.number → r.state ≡ no_state
  pub no_eight : ¬ (r.cause.number ≡ 8)
  pub returns_zero : r.cause.returned ≡ 0
  -- document 02, No. 5: "refusal 7 is given only if the capacities add up to less than n"
  pub seven : r.cause.number ≡ 7 → places s.capacity s.trains < s.orders

-- ---- a round call

-- its reply beside the next state
abbrev pub round_told : State → RoundReply → Round
round_told state GoesOn = record { cause = no_cause; ended = false; pairs = 0; rounds = 0; state = state }
round_told state (Ended pairs rounds) = record { cause = no_cause; ended = true; pairs = pairs; rounds = rounds; state = state }
round_told state (Refused r) = record { cause = cause_of r; ended = true; pairs = 0; rounds = 0; state = state }

abbrev pub round_of : Moved → Round
round_of r = round_told r.state r.reply

pub record ExportedRound (s : Sheet) (state : State) (r : Round) (left found : SearchAreas) : Type 0 where
  pub moved : Moved
  pub equal : r ≡ round_of moved
  pub call : RoundCall s state moved left found
  -- whatever calls have left the state and the areas: they are left as after one round call more, and the numbers say that it goes on, or the end
  pub moves : (lent : SearchAreas) (calls : Calls) → LeftBy s lent calls state found → LeftBy s lent (then_round calls) r.state left
  pub says : (lent : SearchAreas) (calls : Calls) → LeftBy s lent calls state found → r ≡ round_told r.state (said (search_by s (then_round calls)))
  -- document 02, No. 11: where a pair is recorded by then, no train of the plan in the areas is needlessly late
  pub prompt : (lent : SearchAreas) (calls : Calls) → LeftBy s lent calls state found → 1 ≤ r.state.pairs
      → Prompt s (Schedule s) (plan_in s left.plan).train (plan_in s left.plan).departure
  -- whatever the state, the sheet and the areas are: "A further round after the end changes nothing"
  pub after_the_end : ¬ (state.ended ≡ 0) → (r.state ≡ state) × (left ≡ found)
  -- what is no state of a search here is told as ended with no pair after no round, and nothing is changed
  pub no_search : r.cause.number ≡ 0 → r.ended ≡ true → r.pairs ≡ 0 → r.rounds ≡ 0 → (r.state ≡ state) × (left ≡ found)
  -- the pairs that it tells of lie in the area
  pub within : numbers_a_pair * r.pairs ≤ length left.pairs
  -- it refuses with nothing but 8, returns 0 then, and leaves all as found
  pub refuses : (r.cause.number ≡ 0) ⊎ (r.cause.number ≡ 8)
  pub returns_zero : r.cause.returned ≡ 0
  pub as_found : 1 ≤ r.cause.number → left ≡ found
