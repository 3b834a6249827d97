-- THE ROUNDS LIST THE MODEL'S PARETO FRONT. Sheets, schedules and pairs are those of `model`, rounds and answers those of `rounds`; what holds of
-- the listed pairs stands in rounds/specs/ListedPairs.antt, of an entry in EntryPlan.antt, of a chosen pair in ChosenPair.antt, the calls of a search in
-- ByRound.antt, and `rounds_bound` in RoundsBound.antt. Each theorem cites laws of other files, and assumes nothing.
use Rattle.std.specs.Prelude.{◌≡◌, ◌↔◌, true, List, ℕ, ◌+◌, ◌≤◌, ◌<◌, ℤ, length}
use Rattle.std.proofs.Common.{ap, ◌∙◌}
use Rattle.numbers.specs.Counting.{at, count}
use Rattle.numbers.specs.DecidesLaws.{test_means}
use Rattle.model.specs.Sheet.{Sheet, places}
use Rattle.model.specs.Schedule.{Schedule}
use Rattle.model.specs.Lateness.{pair_of, pair_at}
use Rattle.model.specs.Limits.{most_pairs}
use Rattle.model.specs.Foreign.{RowsFit, trains_told, RowsTell, rows_of}
use Rattle.model.specs.ShortTrains.{FullSchedule}
use Rattle.model.specs.Admission.{Admitted}
use Rattle.model.specs.declared.Row.{Row}
use Rattle.model.specs.declared.Refusal.TheVariants.{NoSchedule, WishTooEarly, WrongRows, RuleBroken}
use Rattle.model.specs.declared.RoundReply.TheVariants.{GoesOn}
use Rattle.rounds.specs.Loading.{free, take_orders}
use Rattle.rounds.proofs.LoadingLaws.{decides_free, takes_all}
use Rattle.rounds.specs.Timing.{stopped}
use Rattle.rounds.specs.Recording.{Entry, listed, entry_at, last_entry, recorded_arrival}
use Rattle.rounds.specs.EntryPlan.{EntryPlan, EntryBooked, EntryEmptyTrains, EntryPrompt}
use Rattle.rounds.specs.ListedPairs.{Front}
use Rattle.front.specs.Chosen.{ChosenListed}
use Rattle.rounds.specs.ChosenPair.{Best, TooEarly, Unbeaten}
use Rattle.rounds.specs.Rounds.{going, ended, rounds_in, recorded_in, start, loading, first_timing, rounds, recorded_after, search}
use Rattle.rounds.specs.RoundsBound.{rounds_bound}
use Rattle.rounds.specs.Answers.{refused, given, Listing, list, last_arrival_in, last_listed, choose}
use Rattle.rounds.specs.Areas.{list_left, plan_left}
use Rattle.rounds.specs.Checking.{Verdict, check}
use Rattle.rounds.specs.ByRound.{SearchAreas, Calls, then_round, then_look, round_calls, Then, search_by, seen, end_of, said, last_plan, areas_by, Final}
use Rattle.rounds.proofs.ShortTrainLaws.{as_exactly}
use Rattle.rounds.proofs.AimLaws.{whole}
use Rattle.rounds.proofs.OneRoundLaws.{loaded}
use Rattle.rounds.proofs.InvariantLaws.{entry_plans, entry_booked, entry_empty_trains, empty_at_once, entry_prompt, reached, search_at_end}
use Rattle.rounds.proofs.ArrivalLaws as arrivals
use Rattle.rounds.proofs.AnswerLaws.{listed_so, front_listed, listed_otherwise, eight_means, eight_given, eight_stops, ends_within}
use Rattle.rounds.proofs.ChosenLaws.{choice_best, chosen_so, eleven_chosen, eleven_before_first}
use Rattle.rounds.proofs.ChoosingLaws.{booked_chosen, empty_chosen, prompt_chosen, eight_chosen, eight_chosen_stops, listed_chosen, last_recorded_chosen}
use Rattle.rounds.proofs.CheckingLaws.{yes_so, yes_unbeaten, yes_given, twelve_given, thirteen_given, own_plan, own_rows}
use Rattle.rounds.proofs.ByRoundLaws.{last_plan_so, seen_is, look_leaves, end_is, said_at_end, pairs_at_end, plan_at_end}
use Rattle.rounds.proofs.ByRoundLaws as by_round
use Rattle.rounds.proofs.FinalLaws.{final}
use Rattle.rounds.proofs.BoundLaws as bounds

-- ---- demand 3: the listed pairs

-- "no schedule": 8 is given exactly when there is none
pub no_schedule : (s : Sheet) → Admitted s → list s ≡ refused NoSchedule ↔ ((train departure : List ℕ) → ¬ Schedule s train departure)
no_schedule s a = (eight_means s (whole s a), eight_given s (whole s a))

-- "(step 2 stops round 1)": and exactly when that is so
pub first_stop : (s : Sheet) → Admitted s → list s ≡ refused NoSchedule ↔ (first_timing s ≡ stopped)
first_stop s a = eight_stops s (whole s a)

-- what is listed is the front
pub listed_is_front : (s : Sheet) → Admitted s → {l : Listing} → list s ≡ given l → Front s l.pairs
listed_is_front s a e = front_listed s (whole s a) e

-- "Otherwise": where there is a schedule the front is listed, and nothing stands before it (document 02, No. 6: "the best-list guarantee loses that premise")
pub front_is_listed : (s : Sheet) → Admitted s → (train departure : List ℕ) → Schedule s train departure
    → (l : Listing) × (list s ≡ given l) × Front s l.pairs
front_is_listed s a train departure h = let (l, e) = listed_otherwise s (whole s a) train departure h in (l, e, listed_is_front s a e)

-- ---- what is recorded

-- of each recorded entry, after any number of rounds, the plan is a schedule whose pair it is
pub recorded_plans : (s : Sheet) → Admitted s → (k m : ℕ) → m < length (recorded_after s k)
    → EntryPlan s (entry_at (recorded_after s k) m)
recorded_plans s a k = entry_plans s (whole s a) k

-- document 02, No. 2: and its windows are those of its departures
pub recorded_booked : (s : Sheet) → Admitted s → (k m : ℕ) → m < length (recorded_after s k)
    → EntryBooked s (entry_at (recorded_after s k) m)
recorded_booked s a k = entry_booked s (whole s a) k

-- the arrival of the pair recorded last never falls from round to round
pub arrivals_never_fall : (s : Sheet) → Admitted s → (k : ℕ)
    → recorded_arrival (recorded_after s k) ≤ recorded_arrival (recorded_after s (k + 1))
arrivals_never_fall s a k = arrivals.arrivals_never_fall s (whole s a) k

-- ---- document 02, No. 1: the plan for a wished last arrival

-- "A chosen plan is a schedule", and the pair chosen is its own
pub chosen_plan : (s : Sheet) → Admitted s → (wish : ℕ) {e : Entry} → choose s wish ≡ given e → EntryPlan s e
chosen_plan s a wish u = (chosen_so s (whole s a) wish u).plan

-- document 02, No. 2, "The window of each departure": of a chosen plan too
pub chosen_booked : (s : Sheet) → Admitted s → (wish : ℕ) {e : Entry} → choose s wish ≡ given e → EntryBooked s e
chosen_booked s a wish u = booked_chosen s (whole s a) wish u

pub chosen_listed : (s : Sheet) → Admitted s → (wish : ℕ) {e : Entry} → choose s wish ≡ given e → ChosenListed s wish e.pair
chosen_listed s a wish u = let h = chosen_so s (whole s a) wish u in record { listing = h.listing; is_list = h.is_list; last = h.last }

-- "and none that arrives in time has a smaller worst lateness"
pub chosen_best : (s : Sheet) → Admitted s → (wish : ℕ) {e : Entry} → choose s wish ≡ given e → Best s wish e.pair
chosen_best s a wish {e} u = choice_best s (whole s a) wish e (chosen_so s (whole s a) wish u)

-- a wish for a listed arrival gives the plan of that very pair
pub that_very_pair : (s : Sheet) → Admitted s → {l : Listing} → list s ≡ given l → (k : ℕ) → k < length l.pairs
    → (e : Entry) × (choose s (pair_at l.pairs k).last ≡ given e) × (e.pair ≡ pair_at l.pairs k)
that_very_pair s a u = listed_chosen s (whole s a) u

-- demand 2, "in the last recorded plan": it is chosen where the wish is for the last listed arrival
pub last_plan_chosen : (s : Sheet) → Admitted s → {l : Listing} → list s ≡ given l
    → choose s (last_arrival_in l.pairs) ≡ given (last_entry (recorded_in (search s)))
last_plan_chosen s a u = last_recorded_chosen s (whole s a) u

-- "its words on 8 hold for both"
pub no_schedule_chosen : (s : Sheet) → Admitted s → (wish : ℕ)
    → choose s wish ≡ refused NoSchedule ↔ ((train departure : List ℕ) → ¬ Schedule s train departure)
no_schedule_chosen s a wish = eight_chosen s (whole s a) wish

pub first_stop_chosen : (s : Sheet) → Admitted s → (wish : ℕ) → choose s wish ≡ refused NoSchedule ↔ (first_timing s ≡ stopped)
first_stop_chosen s a wish = eight_chosen_stops s (whole s a) wish

-- "11, the wished arrival is before the first listed one"
pub before_the_first : (s : Sheet) → Admitted s → (wish : ℕ) {l : Listing} → list s ≡ given l
    → choose s wish ≡ refused WishTooEarly ↔ (wish < (pair_at l.pairs 0).last)
before_the_first s a wish u = eleven_before_first s (whole s a) wish u

-- that is when there is a schedule, and none arrives by the wish
pub wish_too_early : (s : Sheet) → Admitted s → (wish : ℕ) → choose s wish ≡ refused WishTooEarly ↔ TooEarly s wish
wish_too_early s a wish = eleven_chosen s (whole s a) wish

-- ---- document 02, No. 3: plans from other firms

-- the pair of a plan, whether it is listed, and the list: the trains are those that the rows say
pub record SaidYes (s : Sheet) (departure : List ℕ) (rows : List Row) (v : Verdict) : Type 0 where
  pub fit : RowsFit s departure rows
  pub schedule : Schedule s (trains_told s.orders rows) departure
  -- "with its pair"; "Arrivals come from our rule"
  pub pair : v.pair ≡ pair_of s (trains_told s.orders rows) departure
  -- "and whether that pair is listed"
  pub is_list : list s ≡ given v.listing
  pub listed : v.is_listed ≡ true ↔ ((k : ℕ) × (k < length v.listing.pairs) × (pair_at v.listing.pairs k ≡ v.pair))

pub says_yes : (s : Sheet) → Admitted s → (departure : List ℕ) (rows : List Row) {v : Verdict} → check s departure rows ≡ given v
    → SaidYes s departure rows v
says_yes s a departure rows e =
    let h = yes_so s departure rows a e in
    record { fit = h.fit; schedule = h.schedule; pair = h.pair; is_list = h.is_list; listed = h.listed }

-- "It says yes exactly when the plan is a schedule of the model"
pub says_yes_to : (s : Sheet) → Admitted s → (departure : List ℕ) (rows : List Row)
    → ((v : Verdict) × (check s departure rows ≡ given v)) ↔ (RowsFit s departure rows × Schedule s (trains_told s.orders rows) departure)
says_yes_to s a departure rows = yes_given s departure rows a

-- listed exactly when there is no better plan: none that is at least as good on both counts and has another pair
pub listed_unbeaten : (s : Sheet) → Admitted s → (departure : List ℕ) (rows : List Row) {v : Verdict} → check s departure rows ≡ given v
    → v.is_listed ≡ true ↔ Unbeaten s v.pair
listed_unbeaten s a departure rows e = yes_unbeaten s departure rows a e

-- "12, a wrong number of rows, an order met twice or outside 1 to n, or a train outside 1 to q"
pub rows_wrong : (s : Sheet) → Admitted s → (departure : List ℕ) (rows : List Row)
    → check s departure rows ≡ refused WrongRows ↔ (¬ RowsFit s departure rows)
rows_wrong s a departure rows = twelve_given s departure rows a

-- "13, a schedule rule broken"; "12 before 13"
pub rule_broken : (s : Sheet) → Admitted s → (departure : List ℕ) (rows : List Row)
    → check s departure rows ≡ refused RuleBroken ↔ (RowsFit s departure rows × (¬ Schedule s (trains_told s.orders rows) departure))
rule_broken s a departure rows = thirteen_given s departure rows a

-- "Every plan that our own planner makes gets a yes", and is listed: the plan chosen for whatever wish, its rows in whatever order
pub own_plan_listed : (s : Sheet) → Admitted s → (wish : ℕ) (e : Entry) → choose s wish ≡ given e → (rows : List Row)
    → RowsTell s e.plan.train e.plan.departure rows
    → (v : Verdict) × (check s e.plan.departure rows ≡ given v) × (v.pair ≡ e.pair) × (v.is_listed ≡ true)
own_plan_listed s a wish e u rows t = own_plan s a wish e u rows t

-- there are such rows: one for each order, by its number
pub own_rows_tell : (s : Sheet) → Admitted s → (wish : ℕ) (e : Entry) → choose s wish ≡ given e
    → RowsTell s e.plan.train e.plan.departure (rows_of e.plan.train)
own_rows_tell s a wish e u = own_rows s a wish e u

-- ---- document 02, No. 4: a look at the list while the search runs

-- "For every list of these calls after an accepted start": reading "gives the list that document 01's rounds made so far have recorded"
pub look_gives : (s : Sheet) (calls : Calls) → seen s calls ≡ listed (recorded_after s (round_calls calls))
look_gives s calls = seen_is s calls

-- "reading changes nothing"
pub look_changes_nothing : (s : Sheet) (calls : Calls) → search_by s (then_look calls) ≡ search_by s calls
look_changes_nothing s calls = look_leaves s calls

-- "All pairs read but the last are final; the last may only be replaced by one with the same arrival and a smaller lateness."
pub look_final : (s : Sheet) → Admitted s → (calls later : Calls) → Then calls later → Final (seen s calls) (seen s later)
look_final s a calls later t = final s a calls later t

-- "A further round after the end changes nothing", so that it says the same again
pub further_round : (s : Sheet) (calls : Calls) → ¬ (said (search_by s calls) ≡ GoesOn) → search_by s (then_round calls) ≡ search_by s calls
further_round s calls e = by_round.no_more_rounds s calls _ _ (by_round.ended_so (search_by s calls) e)

-- document 02, No. 6: "the round-by-round search ends within the same figure"
pub end_comes : (s : Sheet) → Admitted s → (calls : Calls) → rounds_bound s ≤ round_calls calls → ¬ (said (search_by s calls) ≡ GoesOn)
end_comes s a calls l = by_round.end_comes s a calls l

-- "with the list, last plan and count of the unbroken search, or its 8"
pub record Unbroken (s : Sheet) (calls : Calls) : Type 0 where
  -- how many pairs and rounds, or the refusal
  pub says : said (search_by s calls) ≡ end_of (list s)
  -- the areas, as found at the start, then hold the list and the plan of the pair listed last, or are as found
  pub pairs : (found : SearchAreas) → (areas_by s (search_by s calls) found).pairs ≡ list_left (list s) found.pairs
  pub plan : (found : SearchAreas) → (areas_by s (search_by s calls) found).plan ≡ plan_left s (choose s (last_listed (list s))) found.plan

pub end_unbroken : (s : Sheet) → Admitted s → (calls : Calls) → ¬ (said (search_by s calls) ≡ GoesOn) → Unbroken s calls
end_unbroken s a calls e =
    let there = end_is s a calls e in
    record {
      says = said_at_end s a calls e;
      pairs = λ found. ap (λ x. (areas_by s x found).pairs) there ∙ pairs_at_end s a found;
      plan = λ found. ap (λ x. (areas_by s x found).plan) there ∙ plan_at_end s a found;
    }

-- ---- document 02, No. 5: trains may run short. The front above is that of schedules whose train i "carries at most k_i orders"

-- "Sheets with equal sums keep their printed plans": their schedules are those with exactly k_i orders
pub equal_sums : (s : Sheet) → places s.capacity s.trains ≡ s.orders → (train departure : List ℕ)
    → Schedule s train departure ↔ FullSchedule s train departure
equal_sums s e = as_exactly s e

-- "In loading, a train with fewer permitted orders than places takes them all": train i's turn, where it carries none yet
pub takes_them_all : (s : Sheet) (latest train : List ℕ) (i : ℕ) → 1 ≤ i → length train ≡ s.orders → ((j : ℕ) → j < s.orders → ¬ (at train j ≡ i))
    → count (free latest train i) s.orders ≤ s.capacity i
    → (j : ℕ) → j < s.orders → free latest train i j ≡ true → at (take_orders s.orders s.release latest i (s.capacity i) train) j ≡ i
takes_them_all s latest train i p len none few j l e =
    takes_all s.orders s.release latest i p (s.capacity i) train len none few j l (test_means (decides_free latest train i j) e)

-- and where trains run short too, each round of a search loads every order: the next one of a search that goes on after k rounds
pub every_loaded : (s : Sheet) → Admitted s → (k c : ℕ) (latest : List ℕ) (y : ℤ) (recorded : List Entry)
    → rounds s k (start s) ≡ going c latest y recorded
    → (j : ℕ) → j < s.orders → (1 ≤ at (loading s latest) j) × (at (loading s latest) j ≤ s.trains)
every_loaded s a k c latest y recorded now = loaded s (whole s a) k c latest y recorded (reached s (whole s a) k c latest y recorded now)

-- "an empty train waits only for its gap and window": in each recorded plan, after any number of rounds, and in a chosen one
pub recorded_empty_trains : (s : Sheet) → Admitted s → (k m : ℕ) → m < length (recorded_after s k)
    → EntryEmptyTrains s (entry_at (recorded_after s k) m)
recorded_empty_trains s a k m l = empty_at_once s a (entry_at (recorded_after s k) m) (entry_empty_trains s (whole s a) k m l)

pub chosen_empty_trains : (s : Sheet) → Admitted s → (wish : ℕ) {e : Entry} → choose s wish ≡ given e → EntryEmptyTrains s e
chosen_empty_trains s a wish {e} u = empty_at_once s a e (empty_chosen s (whole s a) wish u)

-- ---- document 02, No. 6: the list's length known beforehand

-- the rounds end by themselves, within the figure, those of a search that gives 8 too
pub search_ends : (s : Sheet) → Admitted s → (c : ℕ) × (recorded : List Entry) × (search s ≡ ended c recorded) × (c ≤ rounds_bound s)
search_ends s a = ends_within s (whole s a)

-- and wherever they end, that end is the search: the figure in its definition cuts nothing off
pub search_is_end : (s : Sheet) → Admitted s → (k c : ℕ) (recorded : List Entry) → rounds s k (start s) ≡ ended c recorded → search s ≡ ended c recorded
search_is_end s a k c recorded e = search_at_end s (whole s a) k c recorded e

-- "no search makes more rounds than that, and lists no more pairs", after however many rounds it is looked at
pub no_more_rounds : (s : Sheet) → Admitted s → (k : ℕ) → rounds_in (rounds s k (start s)) ≤ rounds_bound s
no_more_rounds s a k = bounds.no_more_rounds s (whole s a) k

pub no_more_pairs : (s : Sheet) → Admitted s → (k : ℕ) → length (listed (recorded_after s k)) ≤ rounds_bound s
no_more_pairs s a k = bounds.no_more_pairs s (whole s a) k

-- and so of the list
pub list_within : (s : Sheet) → Admitted s → {l : Listing} → list s ≡ given l
    → (l.rounds ≤ rounds_bound s) × (length l.pairs ≤ rounds_bound s)
list_within s a e = let h = listed_so s (whole s a) e in (h.few_rounds, h.few_pairs)

-- no sheet has a greater figure than 5,985
pub bound_most : (s : Sheet) → Admitted s → rounds_bound s ≤ most_pairs
bound_most s a = bounds.bound_most s a

-- ---- document 02, No. 11: no train needlessly late. `Prompt` in rounds/specs/Prompt.antt has its words. By a timetable all times are fixed, and it is said
-- of both forms

-- "For each plan that a window sheet gives": of each recorded one, after any number of rounds; "Empty places are covered too"
pub recorded_prompt : (s : Sheet) → Admitted s → (k m : ℕ) → m < length (recorded_after s k)
    → EntryPrompt s (entry_at (recorded_after s k) m)
recorded_prompt s a k = entry_prompt s (whole s a) k

-- "and so are plans chosen by a wished arrival"
pub chosen_prompt : (s : Sheet) → Admitted s → (wish : ℕ) {e : Entry} → choose s wish ≡ given e → EntryPrompt s e
chosen_prompt s a wish u = prompt_chosen s (whole s a) wish u

-- and so is the plan that stands in the areas of a search that is watched, after every list of calls
pub watched_prompt : (s : Sheet) → Admitted s → (calls : Calls) (e : Entry) → last_plan (recorded_in (search_by s calls)) ≡ given e → EntryPrompt s e
watched_prompt s a calls e u = last_plan_so s (EntryPrompt s) (entry_prompt s (whole s a)) calls e u
