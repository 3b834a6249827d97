-- DOCUMENT 01, "THE SHEET": WHAT A READING CALL PROMISES, in the numbers of its table.
use Rattle.std.specs.Prelude.{◌≡◌, Result, Ok, Err, Bool, true, false, ◌||◌, List, ℕ, ◌<◌, eqb, length}
use Rattle.numbers.specs.Counting.{nth}
use Rattle.model.specs.Sheet.{Sheet, places}
use Rattle.model.specs.Limits.{Inside, inside, ◌–◌}
use Rattle.model.specs.Refusal.{number, returned}
use Rattle.model.specs.Admission.{Admitted}
use Rattle.model.specs.declared.Refusal.{Refusal}
use Rattle.fields.specs.NamePlaces.{NamesLie}
use Rattle.gather.specs.declared.SheetLines.{SheetLines}
use Rattle.sheet.specs.Reading.{lines_in}
use Rattle.sheet.specs.declared.Reading.{Reading}

-- the numbers of the table that return a "line number from 1": 1, 2, 3, 4 and 6
abbrev pub tells_line : ℕ → Bool
tells_line number = inside (1 – 4) number || eqb number 6

-- the capacities in these lines add up to less than the number of orders
abbrev pub FewPlaces : SheetLines → Type 0
FewPlaces s = places (nth s.trains.capacity) s.trains.count < s.orders.count

-- what a refusal of a text says; a text has no more lines than bytes
pub record TextRefusal (text : List ℕ) (r : Refusal) : Type 0 where
  pub numbered : Inside (1 – 7) (number r)
  pub line : tells_line (number r) ≡ true → Inside (1 – length text) (returned r)
  pub no_line : tells_line (number r) ≡ false → returned r ≡ 0
  -- document 02, No. 5: "refusal 7 is given only if the capacities add up to less than n"
  pub seven : number r ≡ 7 → FewPlaces (lines_in text)

-- A READING CALL gives what the definition gives for the text, and says of the text, of the sheet that its struct means and of its names. Beside a
-- refusal there is neither: "no sheet is given".
pub record ReadingCall {S : Type 0} (meant : S → Sheet) (text : List ℕ) (defined given : Result (Reading S) Refusal) : Type 0 where
  pub equal : given ≡ defined
  -- what is read passes every test of a planning call
  pub admitted : (r : Reading S) → given ≡ Ok r → Admitted (meant r.sheet)
  pub refused : (r : Refusal) → given ≡ Err r → TextRefusal text r
  -- each order has a name, which lies in the text
  pub named : (r : Reading S) → given ≡ Ok r → r.names.count ≡ (meant r.sheet).orders
  pub names_lie : (r : Reading S) → given ≡ Ok r → NamesLie text r.names
