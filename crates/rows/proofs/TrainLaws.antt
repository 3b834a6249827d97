-- T and X lines without a fault keep the trains inside every limit that planning tests. Assumes nothing.
use Rattle.std.specs.Prelude.{◌≡◌, refl, Bool, true, ◌&&◌, ◌||◌, List, ℕ, ◌+◌, ◌≤◌, ◌<◌, ltb, eqb, length, set}
use Rattle.std.proofs.Common.{arith, length-set, ltb-true}
use Rattle.numbers.specs.Counting.{nth}
use Rattle.numbers.specs.DecidesLaws.{and_true}
use Rattle.model.specs.Limits.{Inside, inside, capacity_range, running_range, departure_range, arrival_range}
use Rattle.model.specs.declared.Form.{Form}
use Rattle.model.specs.declared.Form.TheVariants.{Windows, Timetable}
use Rattle.fields.proofs.FieldLaws.{inside_means}
use Rattle.rows.proofs.FaultLaws.{NoFault, after_first}
use Rattle.rows.proofs.ColumnLaws.{Rows, Steps, Column, rows_more, steps_more, column_more}
use Rattle.rows.specs.TrainLines.{no_trains, train_tests, fixed_train_tests}
use Rattle.rows.specs.TrainLines.{with_train, with_fixed_train}
use Rattle.lines.specs.declared.Train.{Train}
use Rattle.lines.specs.declared.FixedTrain.{FixedTrain}
use Rattle.rows.specs.declared.TrainRows.{TrainRows}

abbrev pub TrainTimes : ℕ → ℕ → Type 0
TrainTimes departure arrival = Inside departure_range departure × Inside arrival_range arrival

-- the capacities of the trains
pub record GoodTrains (s : TrainRows) : Type 0 where
  pub few : s.count ≤ 32
  pub capacity_long : length s.capacity ≡ 32
  pub capacities : Column (Inside capacity_range) s.capacity s.count

-- their running times, of T lines
pub record GoodRuns (s : TrainRows) : Type 0 where
  pub running_long : length s.running ≡ 32
  pub runs : Column (Inside running_range) s.running s.count

-- their departures and arrivals, of X lines
pub record GoodTimes (s : TrainRows) : Type 0 where
  pub departure_long : length s.departure ≡ 32
  pub arrival_long : length s.arrival ≡ 32
  pub times : Rows TrainTimes s.departure s.arrival s.count
  pub forward : Rows ◌<◌ s.departure s.arrival s.count
  pub departures : Steps ◌<◌ s.departure s.departure s.count
  pub arrivals : Steps ◌<◌ s.arrival s.arrival s.count

abbrev pub GoodPaths : Form → TrainRows → Type 0
GoodPaths Windows s = GoodRuns s
GoodPaths Timetable s = GoodTimes s

pub no_trains_good : GoodTrains no_trains
unfolding no_trains
no_trains_good = record { few = omega arith; capacity_long = refl; capacities = λ j l. absurd (omega arith) }

pub no_paths_good : (form : Form) → GoodPaths form no_trains
unfolding no_trains
no_paths_good Windows = record { running_long = refl; runs = λ j l. absurd (omega arith) }
no_paths_good Timetable =
    record {
      departure_long = refl;
      arrival_long = refl;
      times = λ j l. absurd (omega arith);
      forward = λ j l. absurd (omega arith);
      departures = λ j l. absurd (omega arith);
      arrivals = λ j l. absurd (omega arith);
    }

-- one capacity more
capacity_more : (n : ℕ) (capacity : List ℕ) (c : ℕ) → n < 32 → length capacity ≡ 32 → inside capacity_range c ≡ true
    → Column (Inside capacity_range) capacity n → Column (Inside capacity_range) (set capacity n c) (n + 1)
capacity_more n capacity c room long e h = column_more (Inside capacity_range) capacity n c (omega (arith, long)) h (inside_means capacity_range c e)

module _ (late : Bool) (s : TrainRows) where
  module _ (t : Train) (e : NoFault (train_tests late s.count t)) where
    pub train_room : s.count < 32
    train_room = ltb-true s.count 32 e.few

    ranges : (inside capacity_range t.capacity ≡ true) × (inside running_range t.running ≡ true)
    ranges = and_true (inside capacity_range t.capacity) (inside running_range t.running) e.ranged

    pub train_more : GoodTrains s → GoodTrains (with_train s t)
    train_more h =
        record {
          few = omega (arith, train_room);
          capacity_long = simp length-set h.capacity_long;
          capacities = capacity_more s.count s.capacity t.capacity train_room h.capacity_long ranges.0 h.capacities;
        }

    pub run_more : GoodRuns s → GoodRuns (with_train s t)
    run_more h =
        let room : s.count < length s.running = omega (arith, train_room, h.running_long) in
        record {
          running_long = simp length-set h.running_long;
          runs =
              column_more (Inside running_range) s.running s.count t.running room h.runs (inside_means running_range t.running ranges.1);
        }

  module _ (t : FixedTrain) (e : NoFault (fixed_train_tests late s t)) where
    pub fixed_train_room : s.count < 32
    fixed_train_room = ltb-true s.count 32 e.few

    fixed_ranges : ((inside capacity_range t.capacity ≡ true) × (inside departure_range t.departure ≡ true)) × (inside arrival_range t.arrival ≡ true)
    fixed_ranges =
        let (both, arrival) =
        and_true (inside capacity_range t.capacity && inside departure_range t.departure) (inside arrival_range t.arrival)
        e.ranged in
        (and_true (inside capacity_range t.capacity) (inside departure_range t.departure) both, arrival)

    pub fixed_train_more : GoodTrains s → GoodTrains (with_fixed_train s t)
    fixed_train_more h =
        record {
          few = omega (arith, fixed_train_room);
          capacity_long = simp length-set h.capacity_long;
          capacities = capacity_more s.count s.capacity t.capacity fixed_train_room h.capacity_long fixed_ranges.0.0 h.capacities;
        }

    pub times_more : GoodTimes s → GoodTimes (with_fixed_train s t)
    times_more h =
        let n = s.count in
        let d : n < length s.departure = omega (arith, fixed_train_room, h.departure_long) in
        let a : n < length s.arrival = omega (arith, fixed_train_room, h.arrival_long) in
        let departs = ltb (nth s.departure n) t.departure in
        let arrives = ltb (nth s.arrival n) t.arrival in
        let (ahead, after) = and_true (ltb t.departure t.arrival) (eqb n 0 || (departs && arrives)) e.ordered in
        let rise : 0 < n → (departs ≡ true) × (arrives ≡ true) = λ l. and_true departs arrives (after_first n (departs && arrives) after l) in
        record {
          departure_long = simp length-set h.departure_long;
          arrival_long = simp length-set h.arrival_long;
          times =
              rows_more TrainTimes s.departure s.arrival n t.departure t.arrival d a h.times
              (inside_means departure_range t.departure fixed_ranges.0.1, inside_means arrival_range t.arrival fixed_ranges.1);
          forward =
              rows_more ◌<◌ s.departure s.arrival n t.departure t.arrival d a h.forward (ltb-true t.departure t.arrival ahead);
          departures =
              steps_more ◌<◌ s.departure s.departure n t.departure t.departure d d h.departures
              (λ l. ltb-true (nth s.departure n) t.departure (rise l).0);
          arrivals =
              steps_more ◌<◌ s.arrival s.arrival n t.arrival t.arrival a a h.arrivals
              (λ l. ltb-true (nth s.arrival n) t.arrival (rise l).1);
        }
