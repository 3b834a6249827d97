-- THE CONTRACT OF A CHECKING CALL on the sheet s and a foreign plan, rows of departures and rows of order and train, with the reply r, and the pairs area as
-- left and as found.
use Rattle.std.specs.Prelude.{◌≡◌, ◌↔◌, ◌⊎◌, Bool, true, List, ℕ, ◌≤◌, ◌<◌, ℤ}
use Rattle.model.specs.Sheet.{Sheet, places}
use Rattle.model.specs.Schedule.{Schedule}
use Rattle.model.specs.Lateness.{Pair, pair_of, pair_at}
use Rattle.model.specs.Foreign.{RowsFit, trains_told}
use Rattle.model.specs.Refusal.{of_reply, number_of, returned_of}
use Rattle.model.specs.Admission.{Admitted}
use Rattle.model.specs.declared.Row.{Row}
use Rattle.model.specs.Replies.{CheckReply, checked_as}
use Rattle.rounds.specs.ChosenPair.{Unbeaten}
use Rattle.rounds.specs.Areas.{ListRoom}
use Rattle.rounds.specs.Checking.{check_to}
use Rattle.rounds.specs.Told.{CheckTold}
use Rattle.rounds.specs.ListedPairs.{Front}
use Rattle.planner.specs.InAreas.{pairs_in}

-- what is told of a plan that is a schedule
pub record SaysYes (r : CheckReply) : Type 0 where
  pub pair : Pair
  pub listed : Bool
  pub pairs : ℕ
  pub rounds : ℕ
  pub is : r ≡ checked_as pair.last pair.worst listed pairs rounds

-- the sheet passes 4, 5, 2, 6, 7 and 10; the rows pass 12; and what they say is a schedule of the model
pub record IsSchedule (s : Sheet) (departure : List ℕ) (rows : List Row) (lent : List ℤ) : Type 0 where
  pub admitted : Admitted s
  pub room : ListRoom s lent
  pub fit : RowsFit s departure rows
  pub schedule : Schedule s (trains_told s.orders rows) departure

pub record CheckingCall (s : Sheet) (departure : List ℕ) (rows : List Row) (r : CheckReply) (left found : List ℤ) : Type 0 where
  -- "each planning call is to state this as an equality, refusals too": the reply and the area, its rest as found
  pub equal : CheckTold (check_to s departure rows found) r left found
  -- "It says yes exactly when the plan is a schedule of the model"
  pub schedule : SaysYes r ↔ IsSchedule s departure rows found
  -- "with its pair"; "Arrivals come from our rule": the pair is the model's own
  pub pair : (y : SaysYes r) → y.pair ≡ pair_of s (trains_told s.orders rows) departure
  -- "and whether that pair is listed": whether the list in the area has it
  pub listed : (y : SaysYes r) → y.listed ≡ true ↔ ((k : ℕ) × (k < y.pairs) × (pair_at (pairs_in y.pairs left) k ≡ y.pair))
  -- that is so exactly when no plan is better
  pub unbeaten : (y : SaysYes r) → y.listed ≡ true ↔ Unbeaten s y.pair
  -- "a lent pairs area takes the list": the model's Pareto front
  pub front : (y : SaysYes r) → Front s (pairs_in y.pairs left)
  -- "12, a wrong number of rows, an order met twice or outside 1 to n, or a train outside 1 to q", of a sheet that passes 4, 5, 2, 6, 7 and 10
  pub twelve : Admitted s → ListRoom s found → number_of (of_reply r) ≡ 12 ↔ (¬ RowsFit s departure rows)
  -- "13, a schedule rule broken", where 12 is not given
  pub thirteen : Admitted s → ListRoom s found → RowsFit s departure rows
      → number_of (of_reply r) ≡ 13 ↔ (¬ Schedule s (trains_told s.orders rows) departure)
  -- of such a sheet nothing else is told: 8 and 11 never
  pub answered : Admitted s → ListRoom s found → SaysYes r ⊎ ((number_of (of_reply r) ≡ 12) ⊎ (number_of (of_reply r) ≡ 13))
  -- document 02, No. 5: "refusal 7 is given only if the capacities add up to less than n"
  pub seven : number_of (of_reply r) ≡ 7 → places s.capacity s.trains < s.orders
  -- "A number added later returns 0 and changes nothing lent", as do the others
  pub returns_zero : returned_of (of_reply r) ≡ 0
  pub as_found : 1 ≤ number_of (of_reply r) → left ≡ found
