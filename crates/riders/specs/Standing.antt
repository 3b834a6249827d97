-- (release, number) AS ONE NUMBER, by which orders are compared: 256 times the release, and the order's number.
use Rattle.std.specs.Prelude.{◌≡◌, Bool, ◌&&◌, cond, List, ℕ, zero, suc, ◌+◌, ◌-◌, ◌*◌, ◌%◌, ◌≤◌, max, min, leb, ltb}
use Rattle.numbers.specs.Counting.{at}
use Rattle.model.specs.Limits.{train_counts}
use Rattle.rounds.specs.Riding.{on}

-- of the order at place j; it is never 0
abbrev pub standing : (release : ℕ → ℕ) → ℕ → ℕ
standing release j = 256 * release j + (j + 1)

-- the place of the order with this standing
abbrev pub place : ℕ → ℕ
place own = own % 256 - 1

-- above every standing
abbrev pub beyond : ℕ
beyond = 4294967295

-- what an operation picks of the values of the first m that pass a test; `none` where none does
unfoldable pub picked : (pick : ℕ → ℕ → ℕ) (none : ℕ) (test : ℕ → Bool) (value : ℕ → ℕ) → ℕ → ℕ
picked pick none test value zero = none
picked pick none test value (suc m) = pick (picked pick none test value m) (cond (test m) (value m) none)

-- the greatest value of the first m that pass a test; 0 where none does
abbrev pub greatest_of : (test : ℕ → Bool) (value : ℕ → ℕ) → ℕ → ℕ
greatest_of = picked max 0

-- the least value of the first m that pass a test; `beyond` where none does
abbrev pub least_of : (test : ℕ → Bool) (value : ℕ → ℕ) → ℕ → ℕ
least_of = picked min beyond

-- whether order j rides an earlier train than i, or none, and its latest train lets it ride i
abbrev pub could : (latest train : List ℕ) → ℕ → ℕ → Bool
could latest train i j = ltb (at train j) i && leb i (at latest j)

-- the greatest standing among the first m orders that could come to train i
abbrev pub best : (release : ℕ → ℕ) (latest train : List ℕ) (i m : ℕ) → ℕ
best release latest train i m = greatest_of (could latest train i) (standing release) m

-- the least standing among the first m orders that ride train i
abbrev pub least : (release : ℕ → ℕ) (train : List ℕ) (i m : ℕ) → ℕ
least release train i m = least_of (on train i) (standing release) m

-- the last train that one of the first m orders without a train may ride
abbrev pub waited : (latest train : List ℕ) → ℕ → ℕ
waited latest train m = greatest_of (on train 0) (at latest) m

-- the least standing on each train, in a column; at place 0 that of those who have none
abbrev pub Lowest : (n : ℕ) (release : ℕ → ℕ) (train low : List ℕ) → Type 0
Lowest n release train low = (i : ℕ) → i ≤ train_counts.most → at low i ≡ least release train i n
