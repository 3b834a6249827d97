-- A sound column in which each order has a train that some sheet has, or none, was gathered from some rows. Assumes nothing.
use Rattle.std.specs.Prelude.{◌≡◌, refl, ◌⊎◌, true, cond, List, [], ◌∷◌, ◌++◌, ℕ, zero, suc, ◌-◌, ◌≤◌, ◌<◌, ltb, length, set}
use Rattle.std.proofs.Math.Path.{sym}
use Rattle.std.proofs.Common.{ap, ◌∙◌, inl, inr, arith, ext_get_or, get_or-set_same, get_or-set_other}
use Rattle.std.proofs.Math.ListN.{get_or-replicate}
use Rattle.numbers.specs.Counting.{at}
use Rattle.numbers.specs.DecidesLaws.{decides_lt, decides_eq, decided, cond_yes, cond_no, test_means}
use Rattle.numbers.specs.OneMoreLaws.{more_length, more_old, more_new}
use Rattle.model.specs.Limits.{◌–◌, train_counts, order_counts}
use Rattle.model.specs.Foreign.{no_row}
use Rattle.model.specs.declared.Row.{Row}
use Rattle.foreign.specs.Gathered.{row_added, gathered, column_within}
use Rattle.foreign.proofs.GatheredLaws.{gathered_length, ColumnIn, decides_column}
use Rattle.foreign.proofs.RowAddedLaws.{row_taken}
use Rattle.foreign.specs.declared.Given.{Given}

-- what the first rows say does not depend on those behind
gathered_front : (rows : List Row) (r : Row) (k : ℕ) → k ≤ length rows → gathered (rows ++ (r ∷ [])) k ≡ gathered rows k
unfolding gathered
gathered_front rows r zero l = refl
gathered_front rows r (suc k) l =
    rw (gathered_front rows r k (omega arith), more_old no_row rows r k (omega arith))

-- one more row
gathered_more : (rows : List Row) (r : Row)
    → gathered (rows ++ (r ∷ [])) (length (rows ++ (r ∷ []))) ≡ row_added (gathered rows (length rows)) r.order r.train
unfolding gathered
gathered_more rows r =
    let e : length (rows ++ (r ∷ [])) ≡ suc (length rows) = omega (arith, more_length no_row rows r) in
    rw (e, more_new no_row rows r, gathered_front rows r (length rows) (omega arith))

module _ (train : List ℕ) (low : (j : ℕ) → j < order_counts.most → at train j ≤ train_counts.most) where
  -- rows for the first k places
  record First (k : ℕ) : Type 0 where
    rows : List Row
    sound : (gathered rows (length rows)).sound ≡ true
    trains : (j : ℕ) → j < order_counts.most → at (gathered rows (length rows)).train j ≡ cond (ltb j k) (at train j) 0

  none : First 0
  unfolding gathered
  none =
      record {
        rows = [];
        sound = refl;
        trains = λ j l. get_or-replicate order_counts.most j 0 0 l ∙ sym (cond_no (decides_lt j 0) (λ u. omega arith) (at train j) 0);
      }

  -- the places behind, and those before, are as they were
  same_but : (j k : ℕ) → ¬ (j ≡ k) → cond (ltb j k) (at train j) 0 ≡ cond (ltb j (suc k)) (at train j) 0
  same_but j k u = go (decided (decides_lt j k))
    where
      go : (j < k) ⊎ (¬ (j < k)) → cond (ltb j k) (at train j) 0 ≡ cond (ltb j (suc k)) (at train j) 0
      go (inl v) = cond_yes (decides_lt j k) v (at train j) 0 ∙ sym (cond_yes (decides_lt j (suc k)) (omega arith) (at train j) 0)
      go (inr v) = cond_no (decides_lt j k) v (at train j) 0 ∙ sym (cond_no (decides_lt j (suc k)) (λ w. omega arith) (at train j) 0)

  one : (k : ℕ) → k < order_counts.most → First k → First (suc k)
  one k few f = go (decided (decides_eq (at train k) 0))
    where
      here : at (gathered f.rows (length f.rows)).train k ≡ 0
      here = f.trains k few ∙ cond_no (decides_lt k k) (λ u. omega arith) (at train k) 0

      own : cond (ltb k (suc k)) (at train k) 0 ≡ at train k
      own = cond_yes (decides_lt k (suc k)) (omega arith) (at train k) 0

      go : (at train k ≡ 0) ⊎ (¬ (at train k ≡ 0)) → First (suc k)
      go (inl z) = record { rows = f.rows; sound = f.sound; trains = λ j l. at_place j l (decided (decides_eq j k)) }
        where
          at_place : (j : ℕ) → j < order_counts.most → (j ≡ k) ⊎ (¬ (j ≡ k))
              → at (gathered f.rows (length f.rows)).train j ≡ cond (ltb j (suc k)) (at train j) 0
          at_place j l (inl u) = rw u (here ∙ sym z ∙ sym own)
          at_place j l (inr u) = f.trains j l ∙ same_but j k u
      go (inr z) =
          record { rows = f.rows ++ (r ∷ []); sound = ap (λ (x : Given). x.sound) taken ∙ f.sound; trains = λ j l. at_place j l (decided (decides_eq j k)) }
        where
          r : Row
          r = record { order = suc k; train = at train k }

          before : Given
          before = gathered f.rows (length f.rows)

          place : suc k - 1 ≡ k
          place = omega arith

          taken : gathered (f.rows ++ (r ∷ [])) (length (f.rows ++ (r ∷ [])))
              ≡ record { train = set before.train (suc k - 1) (at train k); sound = before.sound }
          taken =
              gathered_more f.rows r
              ∙ row_taken before (suc k) (at train k) (((omega arith, few), (omega arith, low k few)), rw place here)

          at_place : (j : ℕ) → j < order_counts.most → (j ≡ k) ⊎ (¬ (j ≡ k))
              → at (gathered (f.rows ++ (r ∷ [])) (length (f.rows ++ (r ∷ [])))).train j ≡ cond (ltb j (suc k)) (at train j) 0
          at_place j l (inl u) =
              rw (taken, place, u) (get_or-set_same before.train k (at train k) 0 (omega (arith, gathered_length f.rows (length f.rows))) ∙ sym own)
          at_place j l (inr u) =
              rw (taken, place) (get_or-set_other before.train k j (at train k) 0 u ∙ f.trains j l ∙ same_but j k u)

  first : (k : ℕ) → k ≤ order_counts.most → First k
  first zero l = none
  first (suc k) l = one k l (first k (omega arith))

-- SO A COLUMN THAT PASSES `within` WAS GATHERED
pub some_rows : (n q : ℕ) (g : Given) → q ≤ train_counts.most → length g.train ≡ order_counts.most → column_within n q g ≡ true
    → (rows : List Row) × (g ≡ gathered rows (length rows))
some_rows n q g few long e = (f.rows, λ i. record { train = trains i; sound = (c.sound ∙ sym f.sound) i })
  where
    c : ColumnIn n (0 – q) g
    c = test_means (decides_column n (0 – q) g) e

    low : (j : ℕ) → j < order_counts.most → at g.train j ≤ train_counts.most
    low j l = go (decided (decides_lt j n))
      where
        go : (j < n) ⊎ (¬ (j < n)) → at g.train j ≤ train_counts.most
        go (inl u) = omega (arith, ((c.places j l).0 u).1)
        go (inr u) = omega (arith, (c.places j l).1 (omega arith))

    f : First g.train low order_counts.most
    f = first g.train low order_counts.most (omega arith)

    trains : g.train ≡ (gathered f.rows (length f.rows)).train
    trains =
        ext_get_or 0 g.train (gathered f.rows (length f.rows)).train (long ∙ sym (gathered_length f.rows (length f.rows)))
        (λ j l. let u : j < order_counts.most = omega (arith, long) in
        sym (f.trains j u ∙ cond_yes (decides_lt j order_counts.most) u (at g.train j) 0))
