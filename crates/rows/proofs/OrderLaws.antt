-- O lines without a fault keep the orders in their ranges and the names in the text. Assumes nothing.
use Rattle.std.specs.Prelude.{◌≡◌, refl, Bool, ◌&&◌, List, ℕ, ◌≤◌, ◌<◌, length}
use Rattle.std.proofs.Common.{arith, length-set, ltb-true}
use Rattle.numbers.specs.DecidesLaws.{and_true}
use Rattle.model.specs.Limits.{Inside, inside, release_range, due_range, weight_range}
use Rattle.fields.proofs.FieldLaws.{inside_means}
use Rattle.fields.specs.Names.{NameAt}
use Rattle.rows.proofs.FaultLaws.{NoFault}
use Rattle.rows.proofs.ColumnLaws.{Rows, Column, rows_more, column_more}
use Rattle.rows.specs.OrderLines.{no_orders, order_tests, with_order}
use Rattle.lines.specs.declared.Order.{Order}
use Rattle.rows.specs.declared.OrderRows.{OrderRows}

abbrev pub OrderTimes : ℕ → ℕ → Type 0
OrderTimes release due = Inside release_range release × Inside due_range due

pub record GoodOrders (o : OrderRows) : Type 0 where
  pub few : o.count ≤ 200
  pub release_long : length o.release ≡ 200
  pub due_long : length o.due ≡ 200
  pub weight_long : length o.weight ≡ 200
  pub start_long : length o.name_start ≡ 200
  pub length_long : length o.name_length ≡ 200
  pub times : Rows OrderTimes o.release o.due o.count
  pub weights : Column (Inside weight_range) o.weight o.count

-- every name lies in the text
abbrev pub NamesIn : List ℕ → OrderRows → Type 0
NamesIn text o = Rows (NameAt text) o.name_start o.name_length o.count

pub no_orders_good : GoodOrders no_orders
unfolding no_orders
no_orders_good =
    record {
      few = omega arith;
      release_long = refl;
      due_long = refl;
      weight_long = refl;
      start_long = refl;
      length_long = refl;
      times = λ j l. absurd (omega arith);
      weights = λ j l. absurd (omega arith);
    }

module _ (late : Bool) (o : OrderRows) (x : Order) (e : NoFault (order_tests late o.count x)) where
  pub order_room : o.count < 200
  order_room = ltb-true o.count 200 e.few

  pub order_more : GoodOrders o → GoodOrders (with_order o x)
  order_more g =
      let room : o.count < 200 = order_room in
      let (both, weight) =
      and_true (inside release_range x.release && inside due_range x.due) (inside weight_range x.weight) e.ranged in
      let (release, due) = and_true (inside release_range x.release) (inside due_range x.due) both in
      record {
        few = omega arith;
        release_long = simp length-set g.release_long;
        due_long = simp length-set g.due_long;
        weight_long = simp length-set g.weight_long;
        start_long = simp length-set g.start_long;
        length_long = simp length-set g.length_long;
        times =
            rows_more OrderTimes o.release o.due o.count x.release x.due
            (omega (arith, g.release_long)) (omega (arith, g.due_long)) g.times
            (inside_means release_range x.release release, inside_means due_range x.due due);
        weights =
            column_more (Inside weight_range) o.weight o.count x.weight (omega (arith, g.weight_long)) g.weights
            (inside_means weight_range x.weight weight);
      }

  pub names_more : (text : List ℕ) → GoodOrders o → NameAt text x.name_start x.name_length → NamesIn text o → NamesIn text (with_order o x)
  names_more text g named h =
      let room : o.count < 200 = order_room in
      rows_more (NameAt text) o.name_start o.name_length o.count x.name_start x.name_length
      (omega (arith, g.start_long)) (omega (arith, g.length_long)) h named
