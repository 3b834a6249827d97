-- THE TEST WHETHER TRAINS ARE ORDERLY, train by train. A train's bar is the least standing on it where it is full, and 0 where it is not.
use Rattle.std.specs.Prelude.{◌≡◌, cond, List, ℕ, ◌+◌, ◌≤◌, ◌<◌, eqb}
use Rattle.numbers.specs.Counting.{at}
use Rattle.riders.specs.Standing.{standing}

-- none of q trains has more orders than places
abbrev pub Room : (q : ℕ) (capacity : ℕ → ℕ) (riders : List ℕ) → Type 0
Room q capacity riders = (i : ℕ) → 1 ≤ i → i ≤ q → at riders i ≤ capacity i

abbrev pub bar : (capacity : ℕ → ℕ) (riders low : List ℕ) → ℕ → ℕ
bar capacity riders low i = cond (eqb (at riders i) (capacity i)) (at low i) 0

-- the bars of q trains, in a column
abbrev pub Barred : (q : ℕ) (capacity : ℕ → ℕ) (riders low bars : List ℕ) → Type 0
Barred q capacity riders low bars = (i : ℕ) → 1 ≤ i → i ≤ q → at bars i ≡ bar capacity riders low i

-- m is one of q trains behind i, or q + 1, and no train between them has a lower bar than i
pub record Skip (i q : ℕ) (bars : List ℕ) (m : ℕ) : Type 0 where
  pub ahead : i < m
  pub most : m ≤ q + 1
  pub between : (k : ℕ) → i < k → k < m → at bars i ≤ at bars k

-- for each train behind i, up to q
abbrev pub Skips : (i q : ℕ) (bars next : List ℕ) → Type 0
Skips i q bars next = (k : ℕ) → i < k → k ≤ q → Skip k q bars (at next k)

-- a standing is below the bars of all trains behind `from`, up to `to`
abbrev pub Under : (own from to : ℕ) (bars : List ℕ) → Type 0
Under own from to bars = (i : ℕ) → from < i → i ≤ to → own < at bars i

-- whoever has a train stands below the bars of all later trains that it may ride
abbrev pub AllUnder : (n : ℕ) (release : ℕ → ℕ) (latest train bars : List ℕ) → Type 0
AllUnder n release latest train bars = (y : ℕ) → y < n → 1 ≤ at train y → Under (standing release y) (at train y) (at latest y) bars
