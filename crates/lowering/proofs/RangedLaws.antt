-- An admitted sheet keeps the table's ranges, and the trains that carry its orders arrive. Assumes nothing.
use Rattle.std.specs.Prelude.{List, ℕ, ◌-◌}
use Rattle.std.proofs.Common.{arith}
use Rattle.numbers.specs.Counting.{at}
use Rattle.model.specs.Limits.{last_arrival}
use Rattle.model.specs.Memory.{sheet_of}
use Rattle.model.specs.Admission.{Admitted}
use Rattle.model.specs.declared.Sheet as memory
use Rattle.columns.specs.Columns.{UpTo, Loaded}
use Rattle.lowering.specs.Ranged.{Ranged, Arrives}

module _ (m : memory.Sheet) (a : Admitted (sheet_of m)) where
  pub in_ranges : Ranged m.order_count m.weight m.due
  in_ranges =
      record {
        few = a.few.orders;
        weights = λ j l. (a.within_range.orders j l).weight.1;
        dues = λ j l. (a.within_range.orders j l).due.1;
      }

  pub arrives : (train arrival : List ℕ) → Loaded (sheet_of m) train → UpTo last_arrival m.train_count arrival
      → Arrives m.order_count train arrival
  arrives train arrival h in_time j l =
      let (some, few) = h j l in (some, omega (arith, few, a.few.trains), in_time (at train j - 1) (omega arith))
