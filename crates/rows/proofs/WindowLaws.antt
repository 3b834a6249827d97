-- W lines without a fault keep the windows inside every limit that planning tests. Assumes nothing.
use Rattle.std.specs.Prelude.{◌≡◌, refl, Bool, ◌||◌, ℕ, ◌≤◌, ◌<◌, leb, ltb, eqb, length}
use Rattle.std.proofs.Common.{arith, length-set, leb-true, ltb-true}
use Rattle.numbers.specs.Counting.{nth}
use Rattle.numbers.specs.DecidesLaws.{and_true}
use Rattle.model.specs.Limits.{Inside, inside, window_range}
use Rattle.fields.proofs.FieldLaws.{inside_means}
use Rattle.rows.proofs.FaultLaws.{NoFault, after_first}
use Rattle.rows.proofs.ColumnLaws.{Rows, Steps, rows_more, steps_more}
use Rattle.rows.specs.WindowLines.{no_windows, window_tests, with_window}
use Rattle.lines.specs.declared.Window.{Window}
use Rattle.rows.specs.declared.WindowRows.{WindowRows}

abbrev pub Ends : ℕ → ℕ → Type 0
Ends from to = Inside window_range from × Inside window_range to

pub record GoodWindows (s : WindowRows) : Type 0 where
  pub few : s.count ≤ 64
  pub from_long : length s.from ≡ 64
  pub to_long : length s.to ≡ 64
  pub ends : Rows Ends s.from s.to s.count
  pub forward : Rows ◌≤◌ s.from s.to s.count
  pub apart : Steps ◌<◌ s.to s.from s.count

pub no_windows_good : GoodWindows no_windows
unfolding no_windows
no_windows_good =
    record {
      few = omega arith;
      from_long = refl;
      to_long = refl;
      ends = λ j l. absurd (omega arith);
      forward = λ j l. absurd (omega arith);
      apart = λ j l. absurd (omega arith);
    }

module _ (late : Bool) (s : WindowRows) (w : Window) (e : NoFault (window_tests late s w)) where
  pub window_room : s.count < 64
  window_room = ltb-true s.count 64 e.few

  pub window_more : GoodWindows s → GoodWindows (with_window s w)
  window_more h =
      let n = s.count in
      let from = s.from in
      let to = s.to in
      let room : n < 64 = window_room in
      let f : n < length from = omega (arith, h.from_long) in
      let t : n < length to = omega (arith, h.to_long) in
      let (begins, ends) = and_true (inside window_range w.from) (inside window_range w.to) e.ranged in
      let (ahead, after) = and_true (leb w.from w.to) (eqb n 0 || ltb (nth to n) w.from) e.ordered in
      record {
        few = omega arith;
        from_long = simp length-set h.from_long;
        to_long = simp length-set h.to_long;
        ends =
            rows_more Ends from to n w.from w.to f t h.ends
            (inside_means window_range w.from begins, inside_means window_range w.to ends);
        forward = rows_more ◌≤◌ from to n w.from w.to f t h.forward (leb-true w.from w.to ahead);
        apart =
            steps_more ◌<◌ to from n w.to w.from t f h.apart
            (λ l. ltb-true (nth to n) w.from (after_first n _ after l));
      }
