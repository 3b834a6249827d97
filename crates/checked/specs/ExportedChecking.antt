-- WHAT THE EXPORTED CHECKING CALLS RETURN AND PROMISE, in numbers. The numbers are those of the reply that the definition gives, and with that reply the
-- library's own contract holds; what that contract says follows, in the returned numbers.
use Rattle.std.specs.Prelude.{◌≡◌, ◌↔◌, ◌⊎◌, true, false, List, ℕ, ◌≤◌, ◌<◌, ℤ, pos}
use Rattle.model.specs.Sheet.{Sheet, places}
use Rattle.model.specs.Schedule.{Schedule}
use Rattle.model.specs.Lateness.{Pair, pair_of, pair_at}
use Rattle.model.specs.Foreign.{RowsFit, trains_told}
use Rattle.model.specs.Admission.{Admitted}
use Rattle.model.specs.declared.Row.{Row}
use Rattle.std.specs.Prelude.{Ok, Err}
use Rattle.model.specs.Replies.{CheckReply}
use Rattle.rounds.specs.ChosenPair.{Unbeaten}
use Rattle.rounds.specs.Areas.{ListRoom}
use Rattle.rounds.specs.Checking.{check_to, check_reply}
use Rattle.rounds.specs.ListedPairs.{Front}
use Rattle.planner.specs.InAreas.{pairs_in}
use Rattle.checker.specs.Checking.{IsSchedule, CheckingCall}
use Rattle.exported.specs.Exported.{no_cause, cause_of}
use Rattle.checked.specs.declared.Check.{Check}

-- a checking call's reply
abbrev pub check_of : CheckReply → Check
check_of (Ok v) =
    record { cause = no_cause; last = v.last; worst = v.worst; listed = v.listed; pairs = v.pairs; rounds = v.rounds }
check_of (Err r) = record { cause = cause_of r; last = 0; worst = pos 0; listed = false; pairs = 0; rounds = 0 }

-- the plan's pair
abbrev pub pair_checked : Check → Pair
pair_checked r = record { last = r.last; worst = r.worst }

pub record ExportedCheck (s : Sheet) (departure : List ℕ) (rows : List Row) (r : Check) (left found : List ℤ) : Type 0 where
  pub equal : r ≡ check_of (check_reply (check_to s departure rows found))
  pub call : CheckingCall s departure rows (check_reply (check_to s departure rows found)) left found
  -- "It says yes exactly when the plan is a schedule of the model"
  pub schedule : r.cause.number ≡ 0 ↔ IsSchedule s departure rows found
  -- of an accepted call: "with its pair and whether that pair is listed; a lent pairs area takes the list"
  pub pair : r.cause.number ≡ 0 → pair_checked r ≡ pair_of s (trains_told s.orders rows) departure
  pub listed : r.cause.number ≡ 0 → r.listed ≡ true ↔ ((k : ℕ) × (k < r.pairs) × (pair_at (pairs_in r.pairs left) k ≡ pair_checked r))
  pub unbeaten : r.cause.number ≡ 0 → r.listed ≡ true ↔ Unbeaten s (pair_checked r)
  pub front : r.cause.number ≡ 0 → Front s (pairs_in r.pairs left)
  -- 12 and 13, of a sheet that passes 4, 5, 2, 6, 7 and 10
  pub twelve : Admitted s → ListRoom s found → r.cause.number ≡ 12 ↔ (¬ RowsFit s departure rows)
  pub thirteen : Admitted s → ListRoom s found → RowsFit s departure rows
      → r.cause.number ≡ 13 ↔ (¬ Schedule s (trains_told s.orders rows) departure)
  -- and nothing else of it: 8 and 11 never
  pub answered : Admitted s → ListRoom s found → (r.cause.number ≡ 0) ⊎ ((r.cause.number ≡ 12) ⊎ (r.cause.number ≡ 13))
  -- document 02, No. 5: "refusal 7 is given only if the capacities add up to less than n"
  pub seven : r.cause.number ≡ 7 → places s.capacity s.trains < s.orders
  -- "returns 0 and changes nothing lent"
  pub returns_zero : r.cause.returned ≡ 0
  pub as_found : 1 ≤ r.cause.number → left ≡ found
