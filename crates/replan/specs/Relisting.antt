-- THE CONTRACT OF THE FIRST CALL OF REPLANNING (document 02, No. 13), on the sheet s and the gone part g, with the reply r, and the pairs area as left and as
-- found.
use Rattle.std.specs.Prelude.{◌≡◌, ◌↔◌, List, ℕ, ◌≤◌, ◌<◌, ℤ}
use Rattle.model.specs.Sheet.{Sheet, places}
use Rattle.model.specs.Memory.{window_sheet}
use Rattle.model.specs.Refusal.{of_reply, number_of, returned_of}
use Rattle.model.specs.Admission.{Admitted}
use Rattle.model.specs.Gone.{Gone, Begins, WentWell}
use Rattle.model.specs.Replies.{ListReply, listed_as}
use Rattle.model.specs.declared.Row.{Row}
use Rattle.rounds.specs.RoundsBound.{rounds_bound}
use Rattle.rounds.specs.Areas.{ListRoom}
use Rattle.rounds.specs.ListedPairs.{FrontAmong}
use Rattle.rounds.specs.Replan.{relist_to}
use Rattle.rounds.specs.Told.{ListTold}
use Rattle.planner.specs.InAreas.{pairs_in}
use Rattle.gone.specs.GonePart.{gone_part}
use Rattle.replan.specs.declared.WindowsAt.{WindowsAt}

pub record RelistingCall (s : Sheet) (g : Gone) (r : ListReply) (left found : List ℤ) : Type 0 where
  -- "each planning call is to state this as an equality, refusals too": the reply and the area, its rest as found
  pub equal : ListTold (relist_to s g found) r left found
  -- "the guarantee about the list .. is then over all schedules that begin with the gone trains and whose others keep to that minute": read from the area,
  -- the pairs are the front of these, "and the worst lateness counts the gone orders too", as that of every schedule does
  pub front : (pairs rounds : ℕ) → r ≡ listed_as pairs rounds → FrontAmong s (Begins s g) (pairs_in pairs left)
  -- "Where 21 isn't given", and there is such a schedule, it lists
  pub lists : Admitted s → ListRoom s found → WentWell s g → ((train : List ℕ) × (departure : List ℕ) × Begins s g train departure)
      → (pairs : ℕ) × (rounds : ℕ) × (r ≡ listed_as pairs rounds)
  -- document 02, No. 6, of the whole sheet: "no search makes more rounds than that, and lists no more pairs"
  pub within : (pairs rounds : ℕ) → r ≡ listed_as pairs rounds → (pairs ≤ rounds_bound s) × (rounds ≤ rounds_bound s)
  -- "21 .. tested after 10": exactly when the gone part is not well, of a sheet that passes 4, 5, 2, 6, 7 and 10
  pub twenty_one : Admitted s → ListRoom s found → number_of (of_reply r) ≡ 21 ↔ (¬ WentWell s g)
  -- "with demand 3's words on 8": exactly when no schedule begins so, also where "the orders left outnumber the other trains' places"
  pub eight : Admitted s → ListRoom s found → WentWell s g → number_of (of_reply r) ≡ 8 ↔ ((train departure : List ℕ) → ¬ Begins s g train departure)
  -- document 02, No. 5: "refusal 7 is given only if the capacities add up to less than n"
  pub seven : number_of (of_reply r) ≡ 7 → places s.capacity s.trains < s.orders
  -- "A number added later returns 0 and changes nothing lent", as do the others
  pub returns_zero : returned_of (of_reply r) ≡ 0
  pub as_found : 1 ≤ number_of (of_reply r) → left ≡ found

-- of a sheet of the window form at a minute
abbrev pub RelistedAt : WindowsAt → (departure : List ℕ) → List Row → ListReply → (left found : List ℤ) → Type 0
RelistedAt x departure rows = RelistingCall (window_sheet x.sheet) (gone_part departure rows x.minute)
