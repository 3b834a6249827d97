-- DOCUMENT 01, "THE SHEET": T lines, and X lines in the timetable form. Train i stands at place i − 1 of each column.
use Rattle.std.specs.Prelude.{Bool, true, ◌&&◌, ◌||◌, List, ℕ, ◌+◌, ltb, eqb, set, replicate}
use Rattle.numbers.specs.Counting.{nth}
use Rattle.model.specs.Limits.{inside, capacity_range, running_range, departure_range, arrival_range, train_counts}
use Rattle.lines.specs.declared.Train.{Train}
use Rattle.lines.specs.declared.FixedTrain.{FixedTrain}
use Rattle.rows.specs.declared.LineTests.{LineTests}
use Rattle.rows.specs.declared.TrainRows.{TrainRows}

unfoldable pub no_trains : TrainRows
no_trains =
    record {
      count = 0;
      capacity = replicate train_counts.most 0;
      running = replicate train_counts.most 0;
      departure = replicate train_counts.most 0;
      arrival = replicate train_counts.most 0;
    }

-- 2, "value outside its range"
abbrev pub train_in_range : Train → Bool
train_in_range t = inside capacity_range t.capacity && inside running_range t.running

abbrev pub fixed_train_in_range : FixedTrain → Bool
fixed_train_in_range t = inside capacity_range t.capacity && inside departure_range t.departure && inside arrival_range t.arrival

-- 6, not "departure ≥ arrival; departures or arrivals not rising", after `count` trains with these departures and arrivals
abbrev pub fixed_train_in_order : ℕ → List ℕ → List ℕ → FixedTrain → Bool
fixed_train_in_order count departures arrivals t =
    ltb t.departure t.arrival
    && (eqb count 0 || (ltb (nth departures count) t.departure && ltb (nth arrivals count) t.arrival))

abbrev pub train_tests : (late : Bool) (count : ℕ) → Train → LineTests
train_tests late count t = record { late_enough = late; few = ltb count train_counts.most; in_range = train_in_range t; in_order = true }

abbrev pub fixed_train_tests : (late : Bool) → TrainRows → FixedTrain → LineTests
fixed_train_tests late s t = record {
  late_enough = late;
  few = ltb s.count train_counts.most;
  in_range = fixed_train_in_range t;
  in_order = fixed_train_in_order s.count s.departure s.arrival t;
}

-- one train more
abbrev pub with_train : TrainRows → Train → TrainRows
with_train s t = record {
  count = s.count + 1;
  capacity = set s.capacity s.count t.capacity;
  running = set s.running s.count t.running;
  departure = s.departure;
  arrival = s.arrival;
}

abbrev pub with_fixed_train : TrainRows → FixedTrain → TrainRows
with_fixed_train s t = record {
  count = s.count + 1;
  capacity = set s.capacity s.count t.capacity;
  running = s.running;
  departure = set s.departure s.count t.departure;
  arrival = set s.arrival s.count t.arrival;
}
