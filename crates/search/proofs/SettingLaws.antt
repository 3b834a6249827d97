-- Laws of the columns that a search sets out from. Assumes nothing.
use Rattle.std.specs.Prelude.{◌≡◌, ℕ, suc, ◌-◌, ◌≤◌, take, replicate}
use Rattle.std.proofs.Common.{arith}
use Rattle.numbers.specs.Counting.{at, nth}
use Rattle.numbers.specs.DecidesLaws.{decides_le}
use Rattle.numbers.specs.CountingLaws.{count_all}
use Rattle.numbers.specs.ListLaws.{take_replicate}
use Rattle.model.specs.Limits.{capacity_range}
use Rattle.model.specs.Memory.{sheet_of}
use Rattle.model.proofs.MemoryLaws.{few_places}
use Rattle.model.specs.Sheet.{places}
use Rattle.model.specs.Admission.{Admitted}
use Rattle.model.specs.declared.Sheet as sheet
use Rattle.rounds.specs.Outset.{ordinary}
use Rattle.rounds.specs.SettingOut.{Sets}
use Rattle.columns.specs.Columns.{UpTo}
use Rattle.columns.proofs.ColumnLaws.{nth_at}
use Rattle.timing.proofs.TimingStepLaws.{noughts}
use Rattle.search.specs.Setting.{outset_of}
use Rattle.search.specs.declared.Outset as memory

module _ (m : sheet.Sheet) (a : Admitted (sheet_of m)) where
  -- the columns of the sheet alone: the sheet's places, the last train for every order, and noughts
  pub alone_is_ordinary :
      outset_of m.order_count (record { capacity = m.capacity; latest = replicate 200 m.train_count; since = replicate 32 0 }) ≡ ordinary (sheet_of m)
  alone_is_ordinary =
      λ k. record {
        capacity = nth m.capacity;
        latest = take_replicate {A = ℕ} m.order_count 200 m.train_count a.few.orders k;
        since = λ i. noughts 32 (i - 1) k;
      }

  -- columns that can be set out from: no train has more places than any may have, and together they have places for all orders
  module _ (c : memory.Outset) (h : Sets (sheet_of m) (outset_of m.order_count c)) where
    pub places_few : UpTo capacity_range.most m.train_count c.capacity
    places_few j l = omega (arith, h.fewer (suc j) (omega arith), nth_at c.capacity j, nth_at m.capacity j, few_places m a j l)

    pub places_enough : m.order_count ≤ places (nth c.capacity) m.train_count
    places_enough =
        omega (
          arith,
          h.fits m.train_count (omega arith),
          count_all (λ j. decides_le (at (take m.order_count c.latest) j) m.train_count) m.order_count h.upto,
        )
