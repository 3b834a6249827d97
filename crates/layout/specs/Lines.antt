-- DOCUMENT 01, "THE PRINTED PLAN", AND DOCUMENT 02, NO. 2, as a definition of bytes: `P` is 80, `D` 68, `L` 76, `R` 82, `E` 69, a comma 44, and "each line
-- ends with byte 10".
use Rattle.std.specs.Prelude.{List, [], ◌∷◌, ◌++◌, ℕ, zero, suc, ◌+◌, ◌*◌, ℤ, pos, get_or, take, drop}
use Rattle.model.specs.Limits.{numbers_a_pair, numbers_a_train}
use Rattle.model.specs.Refusal.{number, returned}
use Rattle.model.specs.declared.Refusal.{Refusal}
use Rattle.fields.specs.NamePlaces.{name_at, within}
use Rattle.fields.specs.declared.NamePlaces.{NamePlaces}
use Rattle.writing.specs.Decimal.{decimal, signed, field}

-- ---- the lines

-- "P: last arrival, worst weighted lateness."
unfoldable pub pair_line : (last worst : ℤ) → List ℕ
pair_line last worst = (80 ∷ []) ++ field (signed last) ++ field (signed worst) ++ (10 ∷ [])

-- "D: train, departure, arrival", and the window: "The D line ends with it as a fourth number"
unfoldable pub time_line : (train departure arrival window : ℕ) → List ℕ
time_line train departure arrival window =
    (68 ∷ []) ++ field (decimal train) ++ field (decimal departure) ++ field (decimal arrival) ++ field (decimal window) ++ (10 ∷ [])

-- "L: order name, train."
unfoldable pub order_line : (name : List ℕ) (train : ℕ) → List ℕ
order_line name train = (76 ∷ []) ++ field name ++ field (decimal train) ++ (10 ∷ [])

-- "R: rounds."
unfoldable pub rounds_line : ℕ → List ℕ
rounds_line rounds = (82 ∷ []) ++ field (decimal rounds) ++ (10 ∷ [])

-- "A refusal prints only `E,number,returned`."
unfoldable pub refusal_line : Refusal → List ℕ
refusal_line r = (69 ∷ []) ++ field (decimal (number r)) ++ field (decimal (returned r)) ++ (10 ∷ [])

-- ---- the whole plan

-- "P lines as listed": the first k pairs of the listed numbers, two a pair
unfoldable pub pair_lines : List ℤ → (k : ℕ) → List ℕ
unfolding pair_line
pair_lines pairs zero = []
pair_lines pairs (suc k) = pair_lines pairs k ++ pair_line (get_or pairs (numbers_a_pair * k) (pos 0)) (get_or pairs (numbers_a_pair * k + 1) (pos 0))

-- "D and L lines stand by rising number": trains 1 to k of the times, three a train
unfoldable pub time_lines : List ℕ → (k : ℕ) → List ℕ
unfolding time_line
time_lines times zero = []
time_lines times (suc k) =
    time_lines times k
    ++ time_line (suc k) (get_or times (numbers_a_train * k) 0) (get_or times (numbers_a_train * k + 1) 0) (get_or times (numbers_a_train * k + 2) 0)

-- the name of order j, by where the names stand in the text
unfoldable pub name_of : (text : List ℕ) → NamePlaces → (j : ℕ) → List ℕ
unfolding name_at within
name_of text names j = let s = within text (name_at names j) in take s.long (drop s.start text)

-- orders 1 to k, each with its train
unfoldable pub order_lines : (name : ℕ → List ℕ) → (trains : List ℕ) → (k : ℕ) → List ℕ
unfolding order_line
order_lines name trains zero = []
order_lines name trains (suc k) = order_lines name trains k ++ order_line (name (suc k)) (get_or trains k 0)
