-- Test 21 decides its proposition, and no order went with a train that has not gone. Assumes nothing.
use Rattle.std.specs.Prelude.{◌≡◌, ◌⊎◌, ◌||◌, List, ℕ, zero, suc, ◌≤◌, ◌<◌, leb, eqb, length}
use Rattle.std.proofs.Common.{inl, inr}
use native.Mathlib.Omega.{arith}
use Rattle.numbers.specs.Counting.{at, nth}
use Rattle.numbers.specs.DecidesLaws.{Decides, decides_le, decides_lt, decides_eq, decides_and, decides_or, decides_iff, decides_every, decides_each, decided}
use Rattle.numbers.specs.CountingLaws.{table_at}
use Rattle.model.specs.Sheet.{Sheet}
use Rattle.model.specs.Limits.{◌–◌, Inside}
use Rattle.model.proofs.AdmissionLaws.{decides_inside}
use Rattle.model.proofs.ScheduleTestLaws.{decides_allowed}
use Rattle.model.specs.Foreign.{row_at, train_in, trains_told}
use Rattle.model.proofs.ForeignLaws.{decides_first_met, train_in_none, train_in_row, train_in_other}
use Rattle.model.specs.Gone.{Gone, gone_trains, gone_by, went, WentWell, went_well}
use Rattle.model.specs.declared.Row.{Row}

-- the train that rows give is one that they name, or 0
pub train_within : (rows : List Row) (m k number : ℕ) → ((i : ℕ) → i < k → (row_at rows i).train ≤ m) → train_in rows k number ≤ m
train_within rows m zero number h = omega (arith, train_in_none rows number)
train_within rows m (suc k) number h = go (decided (decides_eq (row_at rows k).order number)) (train_within rows m k number (λ i l. h i (omega arith)))
  where
    go : ((row_at rows k).order ≡ number) ⊎ (¬ ((row_at rows k).order ≡ number)) → train_in rows k number ≤ m → train_in rows (suc k) number ≤ m
    go (inl u) ih = omega (arith, train_in_row rows k number u, h k (omega arith))
    go (inr u) ih = omega (arith, train_in_other rows k number u)

module _ (s : Sheet) (g : Gone) where
  pub went_among : WentWell s g → (j : ℕ) → j < s.orders → at (gone_by s g) j ≤ gone_trains g
  unfolding trains_told
  went_among w j l =
      omega (
        arith,
        table_at (λ j. train_in g.rows (length g.rows) (suc j)) 0 s.orders j l,
        train_within g.rows (gone_trains g) (length g.rows) (suc j) (λ i u. (w.trains i u).1),
      )

  decides_released : (j : ℕ)
      → Decides ((at (gone_by s g) j ≡ 0) ⊎ (s.release j ≤ nth g.departure (at (gone_by s g) j)))
      (eqb (at (gone_by s g) j) 0 || leb (s.release j) (nth g.departure (at (gone_by s g) j)))
  decides_released j = decides_or (decides_eq (at (gone_by s g) j) 0) (decides_le (s.release j) (nth g.departure (at (gone_by s g) j)))

  -- 21 IS GIVEN EXACTLY WHEN THE GONE PART IS NOT WELL
  pub decides_went_well : Decides (WentWell s g) (went_well s g)
  unfolding went_well
  decides_went_well =
      decides_iff
      (λ x.
      record {
        orders = x.0.0.0.0.0.0.0;
        trains = x.0.0.0.0.0.0.1;
        once = x.0.0.0.0.0.1;
        room = x.0.0.0.0.1;
        released = λ j l p. gone j p (x.0.0.0.1 j l);
        departures = x.0.0.1;
        left_by_then = x.0.1;
        remains = x.1;
      })
      (λ h. (((((((h.orders, h.trains), h.once), h.room), either h), h.departures), h.left_by_then), h.remains))
      (decides_and
      (decides_and
      (decides_and
      (decides_and
      (decides_and
      (decides_and
      (decides_and
      (decides_every {P = λ k. Inside (1 – s.orders) (row_at g.rows k).order}
      (λ k. decides_inside (1 – s.orders) (row_at g.rows k).order) (length g.rows))
      (decides_every {P = λ k. Inside (1 – gone_trains g) (row_at g.rows k).train}
      (λ k. decides_inside (1 – gone_trains g) (row_at g.rows k).train) (length g.rows)))
      (decides_every {P = λ k. (i : ℕ) → i < k → ¬ ((row_at g.rows i).order ≡ (row_at g.rows k).order)} (decides_first_met g.rows) (length g.rows)))
      (decides_each {P = λ i. went s g i ≤ s.capacity i} (λ i. decides_le (went s g i) (s.capacity i)) (gone_trains g)))
      (decides_every {P = λ j. (at (gone_by s g) j ≡ 0) ⊎ (s.release j ≤ nth g.departure (at (gone_by s g) j))} decides_released s.orders))
      (decides_allowed s.paths (gone_trains g) (nth g.departure)))
      (decides_each {P = λ i. nth g.departure i ≤ g.minute} (λ i. decides_le (nth g.departure i) g.minute) (gone_trains g)))
      (decides_lt (gone_trains g) s.trains))
    where
      gone : (j : ℕ) → 1 ≤ at (gone_by s g) j → (at (gone_by s g) j ≡ 0) ⊎ (s.release j ≤ nth g.departure (at (gone_by s g) j))
          → s.release j ≤ nth g.departure (at (gone_by s g) j)
      gone j p (inl e) = absurd (omega arith)
      gone j p (inr l) = l

      left_or : (j : ℕ) → j < s.orders → WentWell s g → (at (gone_by s g) j ≡ 0) ⊎ (¬ (at (gone_by s g) j ≡ 0))
          → (at (gone_by s g) j ≡ 0) ⊎ (s.release j ≤ nth g.departure (at (gone_by s g) j))
      left_or j l h (inl e) = inl e
      left_or j l h (inr e) = inr (h.released j l (omega arith))

      either : WentWell s g → (j : ℕ) → j < s.orders → (at (gone_by s g) j ≡ 0) ⊎ (s.release j ≤ nth g.departure (at (gone_by s g) j))
      either h j l = left_or j l h (decided (decides_eq (at (gone_by s g) j) 0))
