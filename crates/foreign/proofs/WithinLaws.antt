-- Rows that name some orders of a sheet: the test of their column is the test of the rows. Assumes nothing.
use Rattle.std.specs.Prelude.{◌≡◌, true, List, ℕ, suc, ◌≤◌, ◌<◌, length}
use Rattle.std.proofs.Common.{◌∙◌, arith}
use Rattle.numbers.specs.Counting.{at}
use Rattle.numbers.specs.DecidesLaws.{Decides, decides_iff}
use Rattle.model.specs.Limits.{◌–◌, train_counts, order_counts}
use Rattle.model.proofs.ForeignLaws.{Clear, clear_wider, unnamed}
use Rattle.model.proofs.GoneTestLaws.{train_within}
use Rattle.model.specs.declared.Row.{Row}
use Rattle.foreign.specs.Gathered.{gathered, column_within}
use Rattle.foreign.proofs.GatheredLaws.{Told, told_clear, ColumnIn, decides_column, column_clear, train_inside}
use Rattle.foreign.specs.declared.Given.{Given}

pub within_low : (n q : ℕ) (g : Given) → n ≤ order_counts.most → column_within n q g ≡ true → (j : ℕ) → j < n → at g.train j ≤ q
within_low n q g most e j l = (train_inside n (0 – q) g most e j l).1

module _ (n q : ℕ) (n_most : n ≤ order_counts.most) (q_most : q ≤ train_counts.most) (rows : List Row) where
  abbrev k : ℕ
  k = length rows

  clear_within : Clear n q rows k → ColumnIn n (0 – q) (gathered rows k)
  clear_within c =
      record {
        places = λ j l. (
          λ h. (omega arith, rw (t.trains j l) (train_within rows q k (suc j) (λ i u. (c.trains i u).1))),
          λ h. t.trains j l ∙ unnamed rows k (suc j) (λ i u e. omega (arith, (c.orders i u).1)),
        );
        sound = t.sound;
      }
    where
      t : Told rows k
      t = told_clear rows k (clear_wider n q order_counts.most train_counts.most rows k n_most q_most c)

  -- THE TEST OF THE COLUMN IS THE TEST OF THE ROWS
  pub within_rows : Decides (Clear n q rows k) (column_within n q (gathered rows k))
  within_rows = decides_iff (column_clear n (0 – q) rows k) clear_within (decides_column n (0 – q) (gathered rows k))
