-- What the rows of a foreign plan say, in a column as the code keeps it, and the tests of that column: a row for each order, as 12 asks, or for some, as 21.
use Rattle.std.specs.Prelude.{◌≡◌, Bool, true, false, ◌&&◌, cond, List, ℕ, zero, suc, ◌-◌, ltb, eqb, length, replicate, set}
use Rattle.numbers.specs.Counting.{at, every}
use Rattle.model.specs.Limits.{Range, ◌–◌, inside, train_counts, order_counts}
use Rattle.model.specs.Foreign.{row_at}
use Rattle.model.specs.declared.Row.{Row}
use Rattle.foreign.specs.declared.Given.{Given}

abbrev pub no_rows : Given
no_rows = record { train = replicate 200 0; sound = true }

-- a row whose order and train some sheet has, and whose order was not met
abbrev pub new_row : Given → (order train : ℕ) → Bool
new_row g order train = inside order_counts order && inside train_counts train && eqb (at g.train (order - 1)) 0

unfoldable pub row_added : Given → (order train : ℕ) → Given
row_added g order train =
    cond (new_row g order train)
    (record { train = set g.train (order - 1) train; sound = g.sound })
    (record { train = g.train; sound = false })

-- what the first k rows say
unfoldable pub gathered : List Row → (k : ℕ) → Given
unfolding row_added
gathered rows zero = no_rows
gathered rows (suc k) = row_added (gathered rows k) (row_at rows k).order (row_at rows k).train

-- what holds of whatever rows were gathered so
abbrev pub OfRows : Given → (List Row → Type 0) → Type 0
OfRows given P = (rows : List Row) → given ≡ gathered rows (length rows) → P rows

-- an order that is on the sheet has a train in this range, and one that is not has none, 0
abbrev pub place_in : Range → Bool → (train : ℕ) → Bool
place_in trains true train = inside trains train
place_in trains false train = eqb train 0

-- an order that is on the sheet has one of q trains, and one that is not has none
abbrev pub place_fits : (q : ℕ) → Bool → (train : ℕ) → Bool
place_fits q = place_in (1 – q)

-- sound rows that give each of n orders a train in this range, and no other order any
unfoldable pub column_in : (n : ℕ) → Range → Given → Bool
unfolding every
column_in n trains g = every (λ j. place_in trains (ltb j n) (at g.train j)) order_counts.most && g.sound

-- they name each order from 1 to n and no other, and only trains 1 to q
abbrev pub column_fits : (n q : ℕ) → Given → Bool
column_fits n q = column_in n (1 – q)

-- they name only orders 1 to n and trains 1 to q, and an order that they leave out has 0
abbrev pub column_within : (n q : ℕ) → Given → Bool
column_within n q = column_in n (0 – q)
