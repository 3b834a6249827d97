-- DOCUMENT 01, "THE SHEET": O lines, of both forms. "Orders are numbered from 1 as they stand": order j stands at place j − 1 of each column.
use Rattle.std.specs.Prelude.{Bool, true, ◌&&◌, ℕ, ◌+◌, ltb, set, replicate}
use Rattle.model.specs.Limits.{inside, release_range, due_range, weight_range, order_counts}
use Rattle.rows.specs.declared.LineTests.{LineTests}
use Rattle.lines.specs.declared.Order.{Order}
use Rattle.rows.specs.declared.OrderRows.{OrderRows}

unfoldable pub no_orders : OrderRows
no_orders = record {
  count = 0;
  release = replicate order_counts.most 0;
  due = replicate order_counts.most 0;
  weight = replicate order_counts.most 0;
  name_start = replicate order_counts.most 0;
  name_length = replicate order_counts.most 0;
}

abbrev pub order_in_range : Order → Bool
order_in_range o = inside release_range o.release && inside due_range o.due && inside weight_range o.weight

-- an O line after `count` others
abbrev pub order_tests : (late : Bool) (count : ℕ) → Order → LineTests
order_tests late count o = record { late_enough = late; few = ltb count order_counts.most; in_range = order_in_range o; in_order = true }

-- one order more
abbrev pub with_order : OrderRows → Order → OrderRows
with_order s o = record {
  count = s.count + 1;
  release = set s.release s.count o.release;
  due = set s.due s.count o.due;
  weight = set s.weight s.count o.weight;
  name_start = set s.name_start s.count o.name_start;
  name_length = set s.name_length s.count o.name_length;
}
