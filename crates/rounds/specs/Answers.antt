-- WHAT THE TWO PLANNING CALLS ANSWER, READ OFF THE ROUNDS (document 02, No. 1): one gives the pairs and the count, the other a plan for a wished last arrival.
use Rattle.std.specs.Prelude.{Bool, cond, List, [], ◌∷◌, ℕ, leb}
use Rattle.model.specs.Sheet.{Sheet}
use Rattle.model.specs.Lateness.{Pair}
use Rattle.model.specs.declared.Refusal.{Refusal}
use Rattle.model.specs.declared.Refusal.TheVariants.{NoSchedule, WishTooEarly}
use Rattle.rounds.specs.Recording.{Entry, listed}
use Rattle.rounds.specs.Outset.{Outset, ordinary}
use Rattle.rounds.specs.Rounds.{rounds_in, recorded_in, search_from}

-- a refusal, or what the call gives
pub data Answer (A : Type 0) : Type 0 where
  refused : Refusal → Answer A
  given : A → Answer A

-- ---- "one call gives the pairs and the count"

pub record Listing : Type 0 where
  pub pairs : List Pair
  pub rounds : ℕ

-- of what is recorded after so many rounds: "no schedule (step 2 stops round 1)" is 8; else "the pairs in order of arrival" and the count
unfoldable pub list_of : (rounds : ℕ) → List Entry → Answer Listing
unfolding listed
list_of c [] = refused NoSchedule
list_of c (e ∷ es) = given (record { pairs = listed (e ∷ es); rounds = c })

-- of the rounds from an outset; of document 01's rounds
unfoldable pub list_from : Sheet → Outset → Answer Listing
unfolding list_of search_from
list_from s o = list_of (rounds_in (search_from s o)) (recorded_in (search_from s o))

abbrev pub list : Sheet → Answer Listing
list s = list_from s (ordinary s)

-- the last listed arrival, for which the program `plan` wishes; 0 where nothing is listed
unfoldable pub last_arrival_in : List Pair → ℕ
last_arrival_in [] = 0
last_arrival_in (p ∷ []) = p.last
last_arrival_in (p ∷ p₁ ∷ ps) = last_arrival_in (p₁ ∷ ps)

abbrev pub last_listed : Answer Listing → ℕ
last_listed (refused r) = 0
last_listed (given l) = last_arrival_in l.pairs

-- ---- "another takes a last arrival and gives the plan of the last listed pair not later than it"

-- "not later than it"
abbrev pub in_time : (wish : ℕ) → Entry → Bool
in_time wish e = leb e.pair.last wish

-- of the entry e and those behind it the last that is not later than the wish; e where no other is
unfoldable pub last_in_time : (wish : ℕ) (e : Entry) → List Entry → Entry
last_in_time wish e [] = e
last_in_time wish e (e₁ ∷ es) = last_in_time wish (cond (in_time wish e₁) e₁ e) es

-- of what is recorded "the last listed pair not later than it", with its plan; "11, the wished arrival is before the first listed one, tested after 8":
-- nothing recorded is no schedule.
unfoldable pub chosen : (wish : ℕ) → List Entry → Answer Entry
unfolding last_in_time
chosen wish [] = refused NoSchedule
chosen wish (e ∷ es) = cond (in_time wish e) (given (last_in_time wish e es)) (refused WishTooEarly)

-- of the rounds from an outset; of document 01's rounds
unfoldable pub choose_from : Sheet → Outset → (wish : ℕ) → Answer Entry
unfolding chosen search_from
choose_from s o wish = chosen wish (recorded_in (search_from s o))

abbrev pub choose : Sheet → (wish : ℕ) → Answer Entry
choose s = choose_from s (ordinary s)
