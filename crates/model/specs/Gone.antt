-- DOCUMENT 02, NO. 13, "REPLANNING AFTER SOME TRAINS HAVE GONE": the gone part, the schedules that the guarantee is then over, and 21, as the proposition that
-- it means and as the test that is computed (GoneTestLaws.antt shows that the two agree).
use Rattle.std.specs.Prelude.{◌≡◌, Bool, ◌&&◌, ◌||◌, List, [], ℕ, ◌≤◌, ◌<◌, leb, ltb, eqb, ℤ, length, ◌≤ℤ◌}
use Rattle.numbers.specs.Counting.{at, nth, count, every, each, some, table}
use Rattle.model.specs.Sheet.{Sheet}
use Rattle.model.specs.Limits.{◌–◌, Inside, inside}
use Rattle.model.specs.Schedule.{Departures, Schedule}
use Rattle.model.specs.ScheduleTest.{allowed}
use Rattle.model.specs.ShortTrains.{Empty, LeavesFrom}
use Rattle.model.specs.Arrival.{arrival}
use Rattle.model.specs.Lateness.{lateness}
use Rattle.model.specs.Foreign.{row_at, first_met, train_in, trains_told}
use Rattle.model.specs.declared.Row.{Row}

-- "At a given minute some first trains have left"; "The gone part comes as No. 3's rows, one departure for each gone train."
pub record Gone : Type 0 where
  pub departure : List ℕ
  pub rows : List Row
  pub minute : ℕ

-- "no train gone and minute 0"
abbrev pub nothing_gone : Gone
nothing_gone = record { departure = []; rows = []; minute = 0 }

-- how many trains have gone: trains 1 to that
abbrev pub gone_trains : Gone → ℕ
gone_trains g = length g.departure

-- the train by which each order has gone, by place, as the rows say; 0 for an order that is left
abbrev pub gone_by : Sheet → Gone → List ℕ
gone_by s g = trains_told s.orders g.rows

-- how many orders went with train i; with 0, how many are left
abbrev pub went : Sheet → Gone → ℕ → ℕ
went s g i = count (λ j. eqb (at (gone_by s g) j) i) s.orders

-- ---- "all schedules that begin with the gone trains and whose others keep to that minute"

pub record Begins (s : Sheet) (g : Gone) (train departure : List ℕ) : Type 0 where
  pub schedule : Schedule s train departure
  -- "The gone trains' orders and times are fixed"
  pub orders_fixed : (j : ℕ) → j < s.orders → 1 ≤ at (gone_by s g) j → at train j ≡ at (gone_by s g) j
  pub none_joins : (j : ℕ) → j < s.orders → at (gone_by s g) j ≡ 0 → gone_trains g < at train j
  pub times_fixed : (i : ℕ) → 1 ≤ i → i ≤ gone_trains g → nth departure i ≡ nth g.departure i
  -- "the others leave no earlier than that minute"; that they "keep gap and arrival rule behind the last gone train" is in Schedule and Arrival
  pub minute_kept : (i : ℕ) → gone_trains g < i → i ≤ s.trains → g.minute ≤ nth departure i

-- No. 5's "an empty train waits only for its gap and window": one that has not gone waits for that minute besides
pub record EmptyTrainsBehind (s : Sheet) (g : Gone) (train departure : List ℕ) : Type 0 where
  pub leave_at_once : (i : ℕ) → gone_trains g < i → i ≤ s.trains → Empty s train i → LeavesFrom s.paths (nth departure) g.minute i

-- ---- "the gone orders' worst"

-- the weighted lateness of the order at place j, which has gone
abbrev pub gone_lateness : Sheet → Gone → ℕ → ℤ
gone_lateness s g j = lateness (s.weight j) (arrival s.paths (nth g.departure) (at (gone_by s g) j)) (s.due j)

-- some gone order is late by z, and none by more
pub record GoneWorst (s : Sheet) (g : Gone) (z : ℤ) : Type 0 where
  pub order : ℕ
  pub gone : (order < s.orders) × (1 ≤ at (gone_by s g) order)
  pub late_by : gone_lateness s g order ≡ z
  pub none_later : (j : ℕ) → j < s.orders → 1 ≤ at (gone_by s g) j → gone_lateness s g j ≤ℤ z

-- ---- 21

pub record WentWell (s : Sheet) (g : Gone) : Type 0 where
  -- not "a gone row with an order met twice or not on the sheet, or a train not among the gone"
  pub orders : (k : ℕ) → k < length g.rows → Inside (1 – s.orders) (row_at g.rows k).order
  pub trains : (k : ℕ) → k < length g.rows → Inside (1 – gone_trains g) (row_at g.rows k).train
  pub once : (k : ℕ) → k < length g.rows → (i : ℕ) → i < k → ¬ ((row_at g.rows i).order ≡ (row_at g.rows k).order)
  -- not "another model rule broken"
  pub room : (i : ℕ) → 1 ≤ i → i ≤ gone_trains g → went s g i ≤ s.capacity i
  pub released : (j : ℕ) → j < s.orders → 1 ≤ at (gone_by s g) j → s.release j ≤ nth g.departure (at (gone_by s g) j)
  pub departures : Departures s.paths (gone_trains g) (nth g.departure)
  -- not "a departure after that minute"
  pub left_by_then : (i : ℕ) → 1 ≤ i → i ≤ gone_trains g → nth g.departure i ≤ g.minute
  -- not "no train remains"
  pub remains : gone_trains g < s.trains

unfoldable pub went_well : Sheet → Gone → Bool
unfolding every some count table train_in trains_told
went_well s g =
    every (λ k. inside (1 – s.orders) (row_at g.rows k).order) (length g.rows)
    && every (λ k. inside (1 – gone_trains g) (row_at g.rows k).train) (length g.rows)
    && every (first_met g.rows) (length g.rows)
    && each (λ i. leb (went s g i) (s.capacity i)) (gone_trains g)
    && every (λ j. eqb (at (gone_by s g) j) 0 || leb (s.release j) (nth g.departure (at (gone_by s g) j))) s.orders
    && allowed s.paths (gone_trains g) (nth g.departure)
    && each (λ i. leb (nth g.departure i) g.minute) (gone_trains g)
    && ltb (gone_trains g) s.trains
