-- THE CONTRACTS OF THE THREE CALLS of a search that is watched, on the sheet s. A start and a look are lent the areas to be read: they can change nothing.
use Rattle.std.specs.Prelude.{◌≡◌, ◌⊎◌, List, ℕ, ◌*◌, ◌≤◌, ◌<◌, ℤ, length, Result, Ok}
use Rattle.model.specs.Sheet.{Sheet, places}
use Rattle.model.specs.Schedule.{Schedule}
use Rattle.model.specs.Limits.{numbers_a_pair}
use Rattle.model.specs.Refusal.{of_reply, of_round, number_of, returned_of}
use Rattle.model.specs.declared.Refusal.{Refusal}
use Rattle.model.specs.declared.RoundReply.TheVariants.{Ended}
use Rattle.rounds.specs.Prompt.{Prompt}
use Rattle.rounds.specs.ByRound.{SearchAreas, start_to, Calls, started, then_round, search_by, seen, said}
use Rattle.planner.specs.InAreas.{pairs_in, plan_in}
use Rattle.watch.specs.LeftBy.{LeftBy}
use Rattle.watch.specs.declared.State.{State}
use Rattle.watch.specs.declared.Moved.{Moved}

-- ---- a start, with these areas

pub record StartCall (s : Sheet) (lent : SearchAreas) (r : Result State Refusal) : Type 0 where
  -- "The start alone gives the refusals up to 10, for all three areas."
  pub equal : of_reply r ≡ start_to s lent
  -- an accepted one gives the state before the first round
  pub begins : (x : State) → r ≡ Ok x → LeftBy s lent started x lent
  -- a refused one gives none, and never 8
  pub no_eight : ¬ (number_of (of_reply r) ≡ 8)
  pub returns_zero : returned_of (of_reply r) ≡ 0
  -- document 02, No. 5: "refusal 7 is given only if the capacities add up to less than n"
  pub seven : number_of (of_reply r) ≡ 7 → places s.capacity s.trains < s.orders

-- ---- a round call, given this state, with the areas as left and as found

pub record RoundCall (s : Sheet) (state : State) (r : Moved) (left found : SearchAreas) : Type 0 where
  -- whatever calls have left the state and the areas: they are left as after one round call more
  pub moves : (lent : SearchAreas) (calls : Calls) → LeftBy s lent calls state found → LeftBy s lent (then_round calls) r.state left
  -- that it goes on, or the end
  pub says : (lent : SearchAreas) (calls : Calls) → LeftBy s lent calls state found → r.reply ≡ said (search_by s (then_round calls))
  -- document 02, No. 11: where a pair is recorded by then, no train of the plan in the areas is needlessly late
  pub prompt : (lent : SearchAreas) (calls : Calls) → LeftBy s lent calls state found → 1 ≤ r.state.pairs
      → Prompt s (Schedule s) (plan_in s left.plan).train (plan_in s left.plan).departure
  -- Whatever the state, the sheet and the areas are: "A further round after the end changes nothing"
  pub after_the_end : ¬ (state.ended ≡ 0) → (r.state ≡ state) × (left ≡ found)
  -- what is no state of a search here is told as ended with no pair after no round, and nothing is changed
  pub no_search : r.reply ≡ Ended 0 0 → (r.state ≡ state) × (left ≡ found)
  -- the pairs that it tells of lie in the area
  pub within : (pairs rounds : ℕ) → r.reply ≡ Ended pairs rounds → numbers_a_pair * pairs ≤ length left.pairs
  -- it refuses with nothing but 8, returns 0 then, and leaves all as found
  pub refuses : (number_of (of_round r.reply) ≡ 0) ⊎ (number_of (of_round r.reply) ≡ 8)
  pub returns_zero : returned_of (of_round r.reply) ≡ 0
  pub as_found : 1 ≤ number_of (of_round r.reply) → left ≡ found

-- ---- a look, given this state and the pairs area

pub record LookCall (state : State) (pairs : List ℤ) (count : ℕ) : Type 0 where
  -- "gives the list that document 01's rounds made so far have recorded": the first pairs of the area
  pub sees : (s : Sheet) (lent : SearchAreas) (calls : Calls) (left : SearchAreas) → LeftBy s lent calls state left → left.pairs ≡ pairs
      → pairs_in count pairs ≡ seen s calls
  -- and how many they are
  pub counts : (s : Sheet) (lent : SearchAreas) (calls : Calls) (left : SearchAreas) → LeftBy s lent calls state left → left.pairs ≡ pairs
      → count ≡ length (seen s calls)
  -- whatever the state is, they lie in the area
  pub within : numbers_a_pair * count ≤ length pairs
