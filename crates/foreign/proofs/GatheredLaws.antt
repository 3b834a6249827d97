-- Sound rows are clear for the largest sheet, and their column has the train of each order; so the tests of the column are tests of the rows. Here test 12, in
-- WithinLaws the test of rows that name some orders.
-- Assumes nothing.
use Rattle.std.specs.Prelude.{◌≡◌, ◌⊎◌, Bool, true, false, ◌&&◌, List, ℕ, zero, suc, ◌-◌, ◌≤◌, ◌<◌, ltb, eqb, length, take, set}
use Rattle.std.proofs.Math.Path.{refl}
use Rattle.std.proofs.Common.{sym, ◌∙◌, ap, inl, inr, arith, ext_get_or, get_or-set_same, get_or-set_other, get_or-take, length-take-le}
use Rattle.std.proofs.lemmas.List.{length-replicate, get_or-replicate}
use Rattle.numbers.specs.Counting.{at}
use Rattle.numbers.specs.CountingLaws.{count_all}
use Rattle.numbers.specs.DecidesLaws.{Decides, decides_le, decides_lt, decides_eq, decides_and, decides_iff, decides_every, decided}
use Rattle.numbers.specs.DecidesLaws.{test_means, same_test}
use Rattle.model.specs.Sheet.{Sheet}
use Rattle.model.specs.Limits.{Range, ◌–◌, Inside, train_counts, order_counts}
use Rattle.model.proofs.AdmissionLaws.{decides_inside}
use Rattle.model.specs.Foreign.{row_at, RowsFit, rows_fit, train_in, trains_told}
use Rattle.model.proofs.ForeignLaws.{decides_rows_fit, Clear, fit_clear, clear_wider, clear_fewer, clear_more, clear_none, train_in_row, train_in_other}
use Rattle.model.proofs.ForeignLaws.{unnamed, named, not_named, count_named, all_on_a_train, told_length, told_at}
use Rattle.model.specs.declared.Row.{Row}
use Rattle.foreign.specs.Gathered.{no_rows, row_added, gathered, place_in, column_in, column_fits}
use Rattle.foreign.proofs.RowAddedLaws.{NewRow, row_taken, added_length, added_sound}
use Rattle.foreign.specs.declared.Given.{Given}

abbrev most_orders : ℕ
most_orders = order_counts.most

abbrev most_trains : ℕ
most_trains = train_counts.most

-- rows that are clear for the largest sheet
abbrev Sound : List Row → ℕ → Type 0
Sound rows k = Clear most_orders most_trains rows k

-- ---- the first k rows

module _ (rows : List Row) where
  gathered_none : gathered rows 0 ≡ no_rows
  unfolding gathered
  gathered_none = refl

  gathered_next : (k : ℕ) → gathered rows (suc k) ≡ row_added (gathered rows k) (row_at rows k).order (row_at rows k).train
  unfolding gathered
  gathered_next k = refl

  pub gathered_length : (k : ℕ) → length (gathered rows k).train ≡ most_orders
  gathered_length zero = rw gathered_none (length-replicate {A = ℕ} most_orders 0)
  gathered_length (suc k) = rw (gathered_next k) (added_length (gathered rows k) (row_at rows k).order (row_at rows k).train ∙ gathered_length k)

  -- sound rows, and the train of each order by place
  pub record Told (k : ℕ) : Type 0 where
    pub sound : (gathered rows k).sound ≡ true
    pub trains : (j : ℕ) → j < most_orders → at (gathered rows k).train j ≡ train_in rows k (suc j)

  abbrev order : ℕ → ℕ
  order k = (row_at rows k).order

  abbrev train : ℕ → ℕ
  train k = (row_at rows k).train

  -- clear rows are taken, each at its order's place
  pub told_clear : (k : ℕ) → Sound rows k → Told k
  told_clear zero c =
      record {
        sound = rw gathered_none;
        trains =
            λ j l. rw gathered_none (get_or-replicate {A = ℕ} most_orders j 0 0 l ∙ sym (unnamed rows 0 (suc j) (λ i h. absurd (omega arith))));
      }
  told_clear (suc k) c = go (told_clear k (clear_fewer most_orders most_trains rows k c))
    where
      here : Inside (1 – most_orders) (order k)
      here = c.orders k (omega arith)

      place : suc (order k - 1) ≡ order k
      place = omega (arith, here.0)

      new : Told k → NewRow (gathered rows k) (order k) (train k)
      new t = (
        (here, c.trains k (omega arith)),
        t.trains (order k - 1) (omega (arith, here.0, here.1))
            ∙ ap (train_in rows k) place
            ∙ unnamed rows k (order k) (λ i l. c.once k (omega arith) i l),
      )

      taken : Told k → gathered rows (suc k) ≡ record { train = set (gathered rows k).train (order k - 1) (train k); sound = (gathered rows k).sound }
      taken t = gathered_next k ∙ row_taken (gathered rows k) (order k) (train k) (new t)

      at_place : Told k → (j : ℕ) → j < most_orders → (j ≡ order k - 1) ⊎ (¬ (j ≡ order k - 1))
          → at (set (gathered rows k).train (order k - 1) (train k)) j ≡ train_in rows (suc k) (suc j)
      at_place t j l (inl e) =
          rw e (
          get_or-set_same (gathered rows k).train (order k - 1) (train k) 0 (omega (arith, gathered_length k))
          ∙ sym (train_in_row rows k (suc (order k - 1)) (sym place)))
      at_place t j l (inr e) =
          get_or-set_other (gathered rows k).train (order k - 1) j (train k) 0 e
          ∙ t.trains j l
          ∙ sym (train_in_other rows k (suc j) (λ h. e (omega (arith, place))))

      go : Told k → Told (suc k)
      go t =
          record {
            sound = rw (taken t) t.sound;
            trains = λ j l. rw (taken t) (at_place t j l (decided (decides_eq j (order k - 1))));
          }

  clear_told : (k : ℕ) → (gathered rows k).sound ≡ true → Sound rows k
  clear_told zero e = clear_none most_orders most_trains rows
  clear_told (suc k) e = go (added_sound (gathered rows k) (order k) (train k) (rw (gathered_next k) at e)) (λ h. clear_told k h)
    where
      go : NewRow (gathered rows k) (order k) (train k) × ((gathered rows k).sound ≡ true) → ((gathered rows k).sound ≡ true → Sound rows k)
          → Sound rows (suc k)
      go (((inside_order, inside_train), free), sound_is) ih =
          clear_more most_orders most_trains rows k clear inside_order inside_train (not_named most_orders most_trains rows k clear (order k) none)
        where
          clear : Sound rows k
          clear = ih sound_is

          place : suc (order k - 1) ≡ order k
          place = omega (arith, inside_order.0)

          none : train_in rows k (order k) ≡ 0
          none =
              ap (train_in rows k) (sym place)
              ∙ sym ((told_clear k clear).trains (order k - 1) (omega (arith, inside_order.0, inside_order.1)))
              ∙ free

-- ---- the test of the column

-- an order that is on the sheet has a train in this range, and one that is not has none
abbrev PlaceIn : (n : ℕ) → Range → List ℕ → ℕ → Type 0
PlaceIn n trains l j = (j < n → Inside trains (at l j)) × (n ≤ j → at l j ≡ 0)

decides_place : (n : ℕ) (trains : Range) (l : List ℕ) (j : ℕ) → Decides (PlaceIn n trains l j) (place_in trains (ltb j n) (at l j))
decides_place n trains l j = go (ltb j n) (decides_lt j n)
  where
    go : (b : Bool) → Decides (j < n) b → Decides (PlaceIn n trains l j) (place_in trains b (at l j))
    go true d =
        decides_iff (λ x. (λ h. x, λ h. absurd (let z : j < n = d.sound tt in omega arith))) (λ p. p.0 (d.sound tt)) (decides_inside trains (at l j))
    go false d =
        decides_iff (λ x. (λ h. absurd (d.complete h), λ h. x)) (λ p. p.1 (let z : ¬ (j < n) = d.complete in omega arith))
        (decides_eq (at l j) 0)

-- a test that is passed
decides_true : (b : Bool) → Decides (b ≡ true) b
decides_true true = record { sound = λ t. refl; complete = λ e. tt }
decides_true false = record { sound = λ t. absurd t; complete = λ e. let z : ◌≡◌ {A = ℕ} 0 1 = cc in absurd (omega arith) }

pub record ColumnIn (n : ℕ) (trains : Range) (g : Given) : Type 0 where
  pub places : (j : ℕ) → j < most_orders → PlaceIn n trains g.train j
  pub sound : g.sound ≡ true

pub decides_column : (n : ℕ) (trains : Range) (g : Given) → Decides (ColumnIn n trains g) (column_in n trains g)
unfolding column_in
decides_column n trains g =
    decides_iff (λ x. record { places = x.0; sound = x.1 }) (λ c. (c.places, c.sound))
    (decides_and (decides_every {P = PlaceIn n trains g.train} (decides_place n trains g.train) most_orders) (decides_true g.sound))

-- the train of each order lies in the range
pub train_inside : (n : ℕ) (trains : Range) (g : Given) → n ≤ most_orders → column_in n trains g ≡ true → (j : ℕ) → j < n → Inside trains (at g.train j)
train_inside n trains g most e j h = ((test_means (decides_column n trains g) e).places j (omega arith)).0 h

module _ (n : ℕ) (trains : Range) (rows : List Row) (k : ℕ) (f : ColumnIn n trains (gathered rows k)) where
  wide : Sound rows k
  wide = clear_told rows k f.sound

  column : (j : ℕ) → j < most_orders → at (gathered rows k).train j ≡ train_in rows k (suc j)
  column = (told_clear rows k wide).trains

  -- the place of a row's order has its train
  at_row : (i : ℕ) → i < k → at (gathered rows k).train ((row_at rows i).order - 1) ≡ (row_at rows i).train
  at_row i l =
      column ((row_at rows i).order - 1) (omega (arith, (wide.orders i l).0, (wide.orders i l).1))
      ∙ ap (train_in rows k) (let h : 1 ≤ (row_at rows i).order = (wide.orders i l).0 in omega arith)
      ∙ named most_orders most_trains rows k wide i l

  row_fits : (i : ℕ) → i < k → Inside (1 – n) (row_at rows i).order × Inside (1 – trains.most) (row_at rows i).train
  row_fits i l = go (decided (decides_lt ((row_at rows i).order - 1) n))
    where
      low : 1 ≤ (row_at rows i).order
      low = (wide.orders i l).0

      here : PlaceIn n trains (gathered rows k).train ((row_at rows i).order - 1)
      here = f.places ((row_at rows i).order - 1) (omega (arith, (wide.orders i l).1, low))

      go : ((row_at rows i).order - 1 < n) ⊎ (¬ ((row_at rows i).order - 1 < n))
          → Inside (1 – n) (row_at rows i).order × Inside (1 – trains.most) (row_at rows i).train
      go (inl h) = ((low, omega (arith, low)), ((wide.trains i l).0, omega (arith, at_row i l, (here.0 h).1)))
      go (inr h) = absurd (omega (arith, here.1 (omega arith), at_row i l, (wide.trains i l).0))

  -- the rows of such a column are clear
  pub column_clear : Clear n trains.most rows k
  column_clear = record { orders = λ i l. (row_fits i l).0; trains = λ i l. (row_fits i l).1; once = wide.once }

-- the column, up to the last order
pub column_told : (n : ℕ) (trains : Range) → n ≤ most_orders → (rows : List Row) → column_in n trains (gathered rows (length rows)) ≡ true
    → take n (gathered rows (length rows)).train ≡ trains_told n rows
column_told n trains n_most rows e =
    ext_get_or 0 (take n l) (trains_told n rows) (len ∙ sym (told_length n rows))
    (λ j h. same j (omega (arith, len)))
  where
    l : List ℕ
    l = (gathered rows (length rows)).train

    len : length (take n l) ≡ n
    len = length-take-le n l (omega (arith, gathered_length rows (length rows)))

    f : ColumnIn n trains (gathered rows (length rows))
    f = test_means (decides_column n trains (gathered rows (length rows))) e

    same : (j : ℕ) → j < n → at (take n l) j ≡ at (trains_told n rows) j
    same j h =
        get_or-take n l j 0 h
        ∙ column n trains rows (length rows) f j (omega arith)
        ∙ sym (told_at n rows j h)

-- ---- test 12: a row for each order

abbrev pub ColumnFits : (n q : ℕ) (g : Given) → Type 0
ColumnFits n q = ColumnIn n (1 – q)

pub fits_on_a_train : (n q : ℕ) (g : Given) → n ≤ most_orders → column_fits n q g ≡ true → (j : ℕ) → j < n → Inside (1 – q) (at g.train j)
fits_on_a_train n q g most e j h = train_inside n (1 – q) g most e j h

pub fits_told : (n q : ℕ) → n ≤ most_orders → (rows : List Row) → column_fits n q (gathered rows (length rows)) ≡ true
    → take n (gathered rows (length rows)).train ≡ trains_told n rows
fits_told n q most rows e = column_told n (1 – q) most rows e

module _ (n q : ℕ) (n_most : n ≤ most_orders) (q_most : q ≤ most_trains) (rows : List Row) where
  -- the column of clear rows for each order
  clear_fits : Clear n q rows n → ColumnIn n (1 – q) (gathered rows n)
  clear_fits c =
      record {
        places = λ j l. (
          λ h. rw (t.trains j l) (all_on_a_train n q rows c j h),
          λ h. t.trains j l ∙ unnamed rows n (suc j) (λ i k e. omega (arith, (c.orders i k).1)),
        );
        sound = t.sound;
      }
    where
      t : Told rows n
      t = told_clear rows n (clear_wider n q most_orders most_trains rows n n_most q_most c)

  fits_count : (k : ℕ) → ColumnIn n (1 – q) (gathered rows k) → k ≡ n
  fits_count k f =
      sym (count_named n q rows k (column_clear n (1 – q) rows k f))
      ∙ count_all {P = λ y. 1 ≤ train_in rows k (suc y)} (λ y. decides_le 1 (train_in rows k (suc y))) n (λ y l. (on_a_train y l).0)
    where
      on_a_train : (j : ℕ) → j < n → Inside (1 – q) (train_in rows k (suc j))
      on_a_train j l = rw (column n (1 – q) rows k f j (omega arith)) at ((f.places j (omega arith)).0 l)

module _ (s : Sheet) (n_most : s.orders ≤ most_orders) (q_most : s.trains ≤ most_trains) (departure : List ℕ) (rows : List Row) where
  column_decides : Decides (RowsFit s departure rows) (eqb (length departure) s.trains && column_fits s.orders s.trains (gathered rows (length rows)))
  column_decides =
      decides_iff into back
      (decides_and (decides_eq (length departure) s.trains) (decides_column s.orders (1 – s.trains) (gathered rows (length rows))))
    where
      into : (length departure ≡ s.trains) × ColumnIn s.orders (1 – s.trains) (gathered rows (length rows)) → RowsFit s departure rows
      into (d, f) =
          record {
            departure_count = d;
            row_count = fits_count s.orders s.trains n_most q_most rows (length rows) f;
            orders = c.orders;
            trains = c.trains;
            once = c.once;
          }
        where
          c : Clear s.orders s.trains rows (length rows)
          c = column_clear s.orders (1 – s.trains) rows (length rows) f

      back : RowsFit s departure rows → (length departure ≡ s.trains) × ColumnIn s.orders (1 – s.trains) (gathered rows (length rows))
      back h = (h.departure_count, rw h.row_count (clear_fits s.orders s.trains n_most q_most rows (fit_clear s departure rows h)))

  pub fits_rows : rows_fit s departure rows ≡ (eqb (length departure) s.trains && column_fits s.orders s.trains (gathered rows (length rows)))
  fits_rows =
      same_test (rows_fit s departure rows) (eqb (length departure) s.trains && column_fits s.orders s.trains (gathered rows (length rows)))
      (decides_rows_fit s departure rows) column_decides
