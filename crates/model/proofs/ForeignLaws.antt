-- Test 12 decides its proposition, and what rows that pass it say: each order's train, whatever the order in which the rows stand. That the rows name every
-- order is the pigeonhole count: k rows that name no order twice name k orders. Assumes nothing.
use Rattle.std.specs.Prelude.{◌≡◌, ◌⊎◌, true, List, ℕ, zero, suc, ◌-◌, ◌≤◌, ◌<◌, leb, length}
use Rattle.std.proofs.Math.Path.{refl}
use Rattle.std.proofs.Common.{sym, ◌∙◌, subst, ap, inl, inr, arith, ext_get_or}
use Rattle.numbers.specs.Counting.{at, count}
use Rattle.numbers.specs.CountingLaws.{count_le, count_lt, count_disj, count_union, count_none, count_point, find, table_length, table_at}
use Rattle.numbers.specs.DecidesLaws.{Decides, decides_le, decides_eq, decides_and, decides_not, decides_iff, decides_every, decided, cond_yes, cond_no, extend}
use Rattle.model.specs.Sheet.{Sheet}
use Rattle.model.specs.Limits.{◌–◌, Inside}
use Rattle.model.proofs.AdmissionLaws.{decides_inside}
use Rattle.model.specs.Foreign.{row_at, RowsFit, first_met, rows_fit, train_in, trains_told, rows_of, RowsTell}
use Rattle.model.specs.declared.Row.{Row}

-- ---- 12

pub decides_first_met : (rows : List Row) (k : ℕ) → Decides ((i : ℕ) → i < k → ¬ ((row_at rows i).order ≡ (row_at rows k).order)) (first_met rows k)
decides_first_met rows k =
    decides_every {P = λ i. ¬ ((row_at rows i).order ≡ (row_at rows k).order)}
    (λ i. decides_not (decides_eq (row_at rows i).order (row_at rows k).order)) k

pub decides_rows_fit : (s : Sheet) (departure : List ℕ) (rows : List Row) → Decides (RowsFit s departure rows) (rows_fit s departure rows)
unfolding rows_fit
decides_rows_fit s departure rows =
    decides_iff
    (λ x. record { departure_count = x.0.0.0.0; row_count = x.0.0.0.1; orders = x.0.0.1; trains = x.0.1; once = x.1 })
    (λ h. ((((h.departure_count, h.row_count), h.orders), h.trains), h.once))
    (decides_and
    (decides_and
    (decides_and
    (decides_and (decides_eq (length departure) s.trains) (decides_eq (length rows) s.orders))
    (decides_every {P = λ k. Inside (1 – s.orders) (row_at rows k).order} (λ k. decides_inside (1 – s.orders) (row_at rows k).order) (length rows)))
    (decides_every {P = λ k. Inside (1 – s.trains) (row_at rows k).train} (λ k. decides_inside (1 – s.trains) (row_at rows k).train) (length rows)))
    (decides_every {P = λ k. (i : ℕ) → i < k → ¬ ((row_at rows i).order ≡ (row_at rows k).order)} (decides_first_met rows) (length rows)))

-- ---- rows that name orders 1 to n and trains 1 to q, and no order twice

-- the first k of them
pub record Clear (n q : ℕ) (rows : List Row) (k : ℕ) : Type 0 where
  pub orders : (i : ℕ) → i < k → Inside (1 – n) (row_at rows i).order
  pub trains : (i : ℕ) → i < k → Inside (1 – q) (row_at rows i).train
  pub once : (i : ℕ) → i < k → (h : ℕ) → h < i → ¬ ((row_at rows h).order ≡ (row_at rows i).order)

pub fit_clear : (s : Sheet) (departure : List ℕ) (rows : List Row) → RowsFit s departure rows → Clear s.orders s.trains rows s.orders
fit_clear s departure rows f =
    subst (λ (k : ℕ). Clear s.orders s.trains rows k) f.row_count (record { orders = f.orders; trains = f.trains; once = f.once })

-- under wider bounds
pub clear_wider : (n q m p : ℕ) (rows : List Row) (k : ℕ) → n ≤ m → q ≤ p → Clear n q rows k → Clear m p rows k
clear_wider n q m p rows k l l' c =
    record {
      orders = λ i h. ((c.orders i h).0, omega (arith, (c.orders i h).1));
      trains = λ i h. ((c.trains i h).0, omega (arith, (c.trains i h).1));
      once = c.once;
    }

module _ (n q : ℕ) (rows : List Row) where
  -- one row fewer
  pub clear_fewer : (k : ℕ) → Clear n q rows (suc k) → Clear n q rows k
  clear_fewer k c =
      record { orders = λ i h. c.orders i (omega arith); trains = λ i h. c.trains i (omega arith); once = λ i h. c.once i (omega arith) }

  -- one row more
  pub clear_more : (k : ℕ) → Clear n q rows k → Inside (1 – n) (row_at rows k).order → Inside (1 – q) (row_at rows k).train
      → ((i : ℕ) → i < k → ¬ ((row_at rows i).order ≡ (row_at rows k).order)) → Clear n q rows (suc k)
  clear_more k c order train new =
      record {
        orders = extend {P = λ i. Inside (1 – n) (row_at rows i).order} k c.orders order;
        trains = extend {P = λ i. Inside (1 – q) (row_at rows i).train} k c.trains train;
        once = extend {P = λ i. (h : ℕ) → h < i → ¬ ((row_at rows h).order ≡ (row_at rows i).order)} k c.once new;
      }

  pub clear_none : Clear n q rows 0
  clear_none = record { orders = λ i h. absurd (omega arith); trains = λ i h. absurd (omega arith); once = λ i h. absurd (omega arith) }

-- ---- the train that the first k rows give

module _ (rows : List Row) where
  pub train_in_none : (number : ℕ) → train_in rows 0 number ≡ 0
  unfolding train_in
  train_in_none number = refl

  pub train_in_row : (k number : ℕ) → (row_at rows k).order ≡ number → train_in rows (suc k) number ≡ (row_at rows k).train
  unfolding train_in
  train_in_row k number e = cond_yes (decides_eq (row_at rows k).order number) e (row_at rows k).train (train_in rows k number)

  pub train_in_other : (k number : ℕ) → ¬ ((row_at rows k).order ≡ number) → train_in rows (suc k) number ≡ train_in rows k number
  unfolding train_in
  train_in_other k number e = cond_no (decides_eq (row_at rows k).order number) e (row_at rows k).train (train_in rows k number)

  -- an order that no row names
  pub unnamed : (k number : ℕ) → ((i : ℕ) → i < k → ¬ ((row_at rows i).order ≡ number)) → train_in rows k number ≡ 0
  unnamed zero number h = train_in_none number
  unnamed (suc k) number h = train_in_other k number (h k (omega arith)) ∙ unnamed k number (λ i l. h i (omega arith))

  -- an order that some row names, the row found
  name : (k number : ℕ) → ((i : ℕ) × (i < k) × ((row_at rows i).order ≡ number)) ⊎ ((i : ℕ) → i < k → ¬ ((row_at rows i).order ≡ number))
  name k number = find {P = λ i. (row_at rows i).order ≡ number} (λ i. decides_eq (row_at rows i).order number) k

module _ (n q : ℕ) (rows : List Row) where
  -- a named order has its row's train
  pub named : (k : ℕ) → Clear n q rows k → (i : ℕ) → i < k → train_in rows k (row_at rows i).order ≡ (row_at rows i).train
  named zero c i l = absurd (omega arith)
  named (suc k) c i l =
      extend {P = λ i. train_in rows (suc k) (row_at rows i).order ≡ (row_at rows i).train} k
      (λ i h.
      train_in_other rows k (row_at rows i).order (λ e. c.once k (omega arith) i h (sym e))
      ∙ named k (clear_fewer n q rows k c) i h)
      (train_in_row rows k (row_at rows k).order refl) i l

  -- an order whose train is 0 is named by no row
  pub not_named : (k : ℕ) → Clear n q rows k → (number : ℕ) → train_in rows k number ≡ 0 → (i : ℕ) → i < k → ¬ ((row_at rows i).order ≡ number)
  not_named k c number z i l e =
      let t : train_in rows k number ≡ (row_at rows i).train = rw e at (named k c i l) in
      omega (arith, (c.trains i l).0)

  -- ---- k rows name k orders

  abbrev has_train : ℕ → ℕ → Type 0
  has_train k y = 1 ≤ train_in rows k (suc y)

  decides_has : (k y : ℕ) → Decides (has_train k y) (leb 1 (train_in rows k (suc y)))
  decides_has k y = decides_le 1 (train_in rows k (suc y))

  pub count_named : (k : ℕ) → Clear n q rows k → count (λ y. leb 1 (train_in rows k (suc y))) n ≡ k
  count_named zero c = count_none {P = has_train 0} (decides_has 0) n (λ y l h. omega (arith, train_in_none rows (suc y)))
  count_named (suc k) c =
      omega (
        arith,
        count_named k before,
        count_point n j (omega (arith, here.0, here.1)),
        count_disj {P = has_train k} {Q = λ y. y ≡ j} {R = has_train (suc k)} (decides_has k) (λ y. decides_eq y j) (decides_has (suc k)) n
            (λ y l h. kept y h (decided (decides_eq y j))) (λ y l h. new y h) (λ y l h e. apart y h e),
        count_union {P = has_train k} {Q = λ y. y ≡ j} {R = has_train (suc k)} (decides_has k) (λ y. decides_eq y j) (decides_has (suc k)) n
            (λ y l h. cover y h (decided (decides_eq y j))),
      )
    where
      before : Clear n q rows k
      before = clear_fewer n q rows k c

      here : Inside (1 – n) (row_at rows k).order
      here = c.orders k (omega arith)

      j : ℕ
      j = (row_at rows k).order - 1

      order : (row_at rows k).order ≡ suc j
      order = omega (arith, here.0)

      new : (y : ℕ) → y ≡ j → has_train (suc k) y
      new y e = omega (arith, train_in_row rows k (suc y) (omega (arith, order)), (c.trains k (omega arith)).0)

      other : (y : ℕ) → ¬ (y ≡ j) → train_in rows (suc k) (suc y) ≡ train_in rows k (suc y)
      other y e = train_in_other rows k (suc y) (λ h. e (omega (arith, order)))

      apart : (y : ℕ) → has_train k y → y ≡ j → ⊥
      apart y h e = omega (arith, unnamed rows k (suc y) (λ i l m. c.once k (omega arith) i l (omega (arith, order))))

      kept : (y : ℕ) → has_train k y → (y ≡ j) ⊎ (¬ (y ≡ j)) → has_train (suc k) y
      kept y h (inl e) = new y e
      kept y h (inr e) = omega (arith, other y e)

      cover : (y : ℕ) → has_train (suc k) y → (y ≡ j) ⊎ (¬ (y ≡ j)) → has_train k y ⊎ (y ≡ j)
      cover y h (inl e) = inr e
      cover y h (inr e) = inl (omega (arith, other y e))

  -- n rows name every one of n orders
  pub all_named : Clear n q rows n → (j : ℕ) → j < n → (i : ℕ) × (i < n) × ((row_at rows i).order ≡ suc j)
  all_named c j l = go (name rows n (suc j))
    where
      go : ((i : ℕ) × (i < n) × ((row_at rows i).order ≡ suc j)) ⊎ ((i : ℕ) → i < n → ¬ ((row_at rows i).order ≡ suc j))
          → (i : ℕ) × (i < n) × ((row_at rows i).order ≡ suc j)
      go (inl x) = x
      go (inr h) =
          absurd (
          omega (
            arith,
            count_named n c,
            count_le (λ y. true) n,
            count_lt {P = has_train n} {Q = λ y. Unit {0}} {q = λ y. true} (decides_has n) (λ y. record { sound = λ t. tt; complete = λ u. tt }) n j l tt
                (λ t. omega (arith, unnamed rows n (suc j) h)) (λ y k t. tt),
          ))

  -- and give each of them one of q trains
  pub all_on_a_train : Clear n q rows n → (j : ℕ) → j < n → Inside (1 – q) (train_in rows n (suc j))
  all_on_a_train c j l =
      let (i, h, e) = all_named c j l in
      let t : train_in rows n (suc j) ≡ (row_at rows i).train = rw e at (named n c i h) in
      rw t (c.trains i h)

-- ---- what rows that fit say

pub told_length : (n : ℕ) (rows : List Row) → length (trains_told n rows) ≡ n
unfolding trains_told
told_length n rows = table_length (λ j. train_in rows (length rows) (suc j)) n

pub told_at : (n : ℕ) (rows : List Row) (j : ℕ) → j < n → at (trains_told n rows) j ≡ train_in rows (length rows) (suc j)
unfolding trains_told
told_at n rows j l = table_at (λ j. train_in rows (length rows) (suc j)) 0 n j l

module _ (s : Sheet) (departure : List ℕ) (rows : List Row) (f : RowsFit s departure rows) where
  clear : Clear s.orders s.trains rows s.orders
  clear = fit_clear s departure rows f

  told : (j : ℕ) → j < s.orders → at (trains_told s.orders rows) j ≡ train_in rows s.orders (suc j)
  told j l = rw f.row_count at (told_at s.orders rows j l)

  pub rows_tell : (k : ℕ) → k < length rows → at (trains_told s.orders rows) ((row_at rows k).order - 1) ≡ (row_at rows k).train
  rows_tell k l =
      told ((row_at rows k).order - 1) (omega (arith, here.0, here.1))
      ∙ ap (train_in rows s.orders) e
      ∙ named s.orders s.trains rows s.orders clear k (omega (arith, f.row_count))
    where
      here : Inside (1 – s.orders) (row_at rows k).order
      here = f.orders k l

      e : suc ((row_at rows k).order - 1) ≡ (row_at rows k).order
      e = omega (arith, here.0)

  -- rows in whatever order say the plan that they agree with
  pub told_by_rows : (train : List ℕ) → length train ≡ s.orders
      → ((k : ℕ) → k < length rows → at train ((row_at rows k).order - 1) ≡ (row_at rows k).train) → trains_told s.orders rows ≡ train
  told_by_rows train length_is agree =
      ext_get_or 0 (trains_told s.orders rows) train (omega (arith, told_length s.orders rows, length_is))
      (λ j l. same j (omega (arith, told_length s.orders rows)))
    where
      same : (j : ℕ) → j < s.orders → at (trains_told s.orders rows) j ≡ at train j
      same j l =
          let (i, h, e) = all_named s.orders s.trains rows clear j l in
          let k : i < length rows = omega (arith, f.row_count) in
          let o : (row_at rows i).order - 1 ≡ j = omega (arith, e) in
          (sym (ap (at (trains_told s.orders rows)) o) ∙ rows_tell i k) ∙ (sym (agree i k) ∙ ap (at train) o)

-- ---- the rows of a plan

rows_of_length : (train : List ℕ) → length (rows_of train) ≡ length train
unfolding rows_of
rows_of_length train = table_length (λ j. record { order = suc j; train = at train j }) (length train)

pub rows_of_at : (train : List ℕ) (k : ℕ) → k < length train → row_at (rows_of train) k ≡ record { order = suc k; train = at train k }
unfolding rows_of
rows_of_at train k l = table_at (λ j. record { order = suc j; train = at train j }) (record { order = 0; train = 0 }) (length train) k l

module _ (s : Sheet) (departure train : List ℕ) (departs : length departure ≡ s.trains) (placed : length train ≡ s.orders)
    (on_a_train : (j : ℕ) → j < s.orders → Inside (1 – s.trains) (at train j)) where
  abbrev the : ℕ → Row
  the k = row_at (rows_of train) k

  row_is : (k : ℕ) → k < length (rows_of train) → the k ≡ record { order = suc k; train = at train k }
  row_is k l = rows_of_at train k (omega (arith, rows_of_length train))

  fit : RowsFit s departure (rows_of train)
  fit =
      record {
        departure_count = departs;
        row_count = rows_of_length train ∙ placed;
        orders = λ k l. rw (row_is k l) (omega (arith, rows_of_length train, placed));
        trains = λ k l. rw (row_is k l) (on_a_train k (omega (arith, rows_of_length train, placed)));
        once = λ k l i h. rw (row_is k l, row_is i (omega arith)) (λ e. omega arith);
      }

  pub rows_of_tell : RowsTell s train departure (rows_of train)
  rows_of_tell = record { fit = fit; each_row = λ k l. rw (row_is k l) (let e : suc k - 1 ≡ k = omega arith in ap (at train) e) }
