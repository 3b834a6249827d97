-- THE CONTRACT OF A LISTING CALL on the sheet s, with the reply r, and the pairs area as left and as found.
use Rattle.std.specs.Prelude.{◌≡◌, ◌↔◌, List, ℕ, ◌≤◌, ◌<◌, ℤ}
use Rattle.model.specs.Sheet.{Sheet, places}
use Rattle.model.specs.Schedule.{Schedule}
use Rattle.model.specs.Refusal.{of_reply, number_of, returned_of}
use Rattle.model.specs.Admission.{Admitted}
use Rattle.model.specs.Replies.{ListReply, listed_as}
use Rattle.rounds.specs.RoundsBound.{rounds_bound}
use Rattle.rounds.specs.Areas.{ListRoom, list_to}
use Rattle.rounds.specs.Told.{ListTold}
use Rattle.rounds.specs.ListedPairs.{Front}
use Rattle.planner.specs.InAreas.{pairs_in}

pub record ListingCall (s : Sheet) (r : ListReply) (left found : List ℤ) : Type 0 where
  -- "it is the one that these rounds give, and each planning call is to state this as an equality, refusals too": the reply and the area, its rest as found
  pub equal : ListTold (list_to s found) r left found
  -- "Demand 3's listed pairs are those of the first call": read from the area, they are the model's Pareto front
  pub front : (pairs rounds : ℕ) → r ≡ listed_as pairs rounds → Front s (pairs_in pairs left)
  -- "Otherwise" it lists, and no round limit stands before that (document 02, No. 6: "the best-list guarantee loses that premise")
  pub lists : Admitted s → ListRoom s found → ((train : List ℕ) × (departure : List ℕ) × Schedule s train departure)
      → (pairs : ℕ) × (rounds : ℕ) × (r ≡ listed_as pairs rounds)
  -- "no search makes more rounds than that, and lists no more pairs"
  pub within : (pairs rounds : ℕ) → r ≡ listed_as pairs rounds → (pairs ≤ rounds_bound s) × (rounds ≤ rounds_bound s)
  -- demand 3: refused with 8 exactly when the model has no schedule, of a sheet that passes 4, 5, 2, 6, 7 and 10
  pub eight : Admitted s → ListRoom s found → number_of (of_reply r) ≡ 8 ↔ ((train departure : List ℕ) → ¬ Schedule s train departure)
  -- document 02, No. 5: "refusal 7 is given only if the capacities add up to less than n"
  pub seven : number_of (of_reply r) ≡ 7 → places s.capacity s.trains < s.orders
  -- "4, 5, 2, 6, 7, 10, then 8 .., always with 0 returned"
  pub returns_zero : returned_of (of_reply r) ≡ 0
  -- "and every lent area as found"
  pub as_found : 1 ≤ number_of (of_reply r) → left ≡ found
