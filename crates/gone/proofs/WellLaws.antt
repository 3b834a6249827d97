-- The test of the columns is test 21 of the rows. Assumes nothing.
use Rattle.std.specs.Prelude.{◌≡◌, ◌⊎◌, Bool, true, false, ◌&&◌, ◌||◌, List, ℕ, ◌-◌, ◌≤◌, ◌<◌, leb, eqb, length, take, replicate}
use Rattle.std.proofs.Common.{sym, ap, ◌∙◌, inl, inr, arith, get_or-take}
use Rattle.std.proofs.lemmas.List.{get_or-replicate}
use Rattle.numbers.specs.Counting.{at, nth, count, every, each}
use Rattle.numbers.specs.CountingLaws.{count_cong}
use Rattle.numbers.specs.DecidesLaws.{Decides, decides_le, decides_eq, decides_and, decides_or, decides_iff, decides_every, decides_each, decided}
use Rattle.numbers.specs.DecidesLaws.{test_means, test_fails, test_false, same_test}
use Rattle.model.specs.Sheet.{Sheet}
use Rattle.model.specs.Limits.{◌–◌, train_counts, order_counts}
use Rattle.model.specs.ScheduleTest.{allowed}
use Rattle.model.proofs.ScheduleTestLaws.{decides_allowed}
use Rattle.model.proofs.ForeignLaws.{Clear}
use Rattle.model.specs.Gone.{Gone, gone_by, went, WentWell, went_well}
use Rattle.model.proofs.GoneTestLaws.{decides_went_well}
use Rattle.model.specs.declared.Row.{Row}
use Rattle.foreign.specs.Gathered.{gathered, column_within}
use Rattle.foreign.specs.declared.Given.{Given}
use Rattle.foreign.proofs.GatheredLaws.{column_told}
use Rattle.foreign.proofs.WithinLaws.{within_rows, within_low}
use Rattle.rules.proofs.RulesLaws.{allowed_same}
use Rattle.gone.specs.GonePart.{gone_part}

module _ (s : Sheet) (n_most : s.orders ≤ order_counts.most) (q_most : s.trains ≤ train_counts.most) (departure : List ℕ) (rows : List Row) (minute : ℕ)
  where
    abbrev g : Gone
    g = gone_part departure rows minute

    abbrev gone : ℕ
    gone = length departure

    pub none_remains : s.trains ≤ gone → false ≡ went_well s g
    none_remains l = sym (test_false (decides_went_well s g) (λ w. omega (arith, w.remains)))

    module _ (remains : gone < s.trains) where
      rows_test : Decides (Clear s.orders gone rows (length rows)) (column_within s.orders gone (gathered rows (length rows)))
      rows_test = within_rows s.orders gone n_most (omega arith) rows

      pub wrong_rows : column_within s.orders gone (gathered rows (length rows)) ≡ false → false ≡ went_well s g
      wrong_rows e =
          sym (test_false (decides_went_well s g) (λ w. test_fails rows_test e (record { orders = w.orders; trains = w.trains; once = w.once })))

      module _ (e : column_within s.orders gone (gathered rows (length rows)) ≡ true) where
        clear : Clear s.orders gone rows (length rows)
        clear = test_means rows_test e

        -- the column of the rows
        abbrev train : List ℕ
        train = (gathered rows (length rows)).train

        pub train_told : take s.orders train ≡ gone_by s g
        train_told = column_told s.orders (0 – gone) n_most rows e

        pub train_is : (j : ℕ) → j < s.orders → at train j ≡ at (gone_by s g) j
        train_is j l = sym (get_or-take s.orders train j 0 l) ∙ ap (λ (t : List ℕ). at t j) train_told

        pub train_low : (j : ℕ) → j < s.orders → at train j ≤ train_counts.most
        train_low j l =
            omega (arith, within_low s.orders gone (gathered rows (length rows)) n_most e j l)

        pub went_is : (i : ℕ) → count (λ j. eqb (at train j) i) s.orders ≡ went s g i
        went_is i =
            count_cong (λ j. decides_eq (at train j) i) (λ j. decides_eq (at (gone_by s g) j) i) s.orders (λ j l h. omega (arith, train_is j l))
            (λ j l h. omega (arith, train_is j l))

        module _ (column : List ℕ) (is : take gone column ≡ departure) where
          departs : (i : ℕ) → 1 ≤ i → i ≤ gone → nth column i ≡ nth departure i
          departs i p l = sym (get_or-take gone column (i - 1) 0 (omega arith)) ∙ ap (λ (t : List ℕ). nth t i) is

          minutes : (i : ℕ) → 1 ≤ i → i ≤ gone → nth (replicate train_counts.most minute) i ≡ minute
          minutes i p l = get_or-replicate train_counts.most (i - 1) minute 0 (omega arith)

          pub well_tested : (room released left : Bool) → room ≡ each (λ i. leb (count (λ j. eqb (at train j) i) s.orders) (s.capacity i)) gone
              → released ≡ every (λ j. eqb (at train j) 0 || leb (s.release j) (nth column (at train j))) s.orders
              → left ≡ each (λ i. leb (nth column i) (nth (replicate train_counts.most minute) i)) gone
              → (((room && released) && allowed s.paths gone (nth column)) && left) ≡ went_well s g
          well_tested room released left u v w =
              rw (u, v, w, allowed_same s.paths gone (nth column) (nth departure) departs)
              (same_test _ (went_well s g)
              (decides_iff
              (λ x.
              record {
                orders = clear.orders;
                trains = clear.trains;
                once = clear.once;
                room = λ i p l. omega (arith, x.0.0.0 i p l, went_is i);
                released = λ j l p. in_time j l p (x.0.0.1 j l);
                departures = x.0.1;
                left_by_then = λ i p l. omega (arith, x.1 i p l, departs i p l, minutes i p l);
                remains = remains;
              })
              (λ h. (
                ((λ i p l. omega (arith, h.room i p l, went_is i), λ j l. either j l h (decided_eq (at train j) 0)), h.departures),
                λ i p l. omega (arith, h.left_by_then i p l, departs i p l, minutes i p l),
              ))
              (decides_and
              (decides_and
              (decides_and
              (decides_each {P = λ i. count (λ j. eqb (at train j) i) s.orders ≤ s.capacity i} (λ i. decides_le _ _) gone)
              (decides_every {P = λ j. (at train j ≡ 0) ⊎ (s.release j ≤ nth column (at train j))}
              (λ j. decides_or (decides_eq (at train j) 0) (decides_le (s.release j) (nth column (at train j)))) s.orders))
              (decides_allowed s.paths gone (nth departure)))
              (decides_each {P = λ i. nth column i ≤ nth (replicate train_counts.most minute) i} (λ i. decides_le _ _) gone)))
              (decides_went_well s g))
            where
              decided_eq : (x y : ℕ) → (x ≡ y) ⊎ (¬ (x ≡ y))
              decided_eq x y = decided (decides_eq x y)

              on : (j : ℕ) → j < s.orders → 1 ≤ at (gone_by s g) j → nth column (at train j) ≡ nth departure (at (gone_by s g) j)
              on j l p =
                  ap (nth column) (train_is j l)
                  ∙ departs (at (gone_by s g) j) p
                  (omega (arith, train_is j l, within_low s.orders gone (gathered rows (length rows)) n_most e j l))

              in_time : (j : ℕ) → j < s.orders → 1 ≤ at (gone_by s g) j → (at train j ≡ 0) ⊎ (s.release j ≤ nth column (at train j))
                  → s.release j ≤ nth departure (at (gone_by s g) j)
              in_time j l p (inl z) = absurd (omega (arith, train_is j l))
              in_time j l p (inr z) = omega (arith, on j l p)

              either : (j : ℕ) → j < s.orders → WentWell s g → (at train j ≡ 0) ⊎ (¬ (at train j ≡ 0))
                  → (at train j ≡ 0) ⊎ (s.release j ≤ nth column (at train j))
              either j l h (inl z) = inl z
              either j l h (inr z) =
                  let p : 1 ≤ at (gone_by s g) j = omega (arith, train_is j l) in inr (omega (arith, h.released j l p, on j l p))

      -- so of what was gathered
      pub well_given : (given : Given) → given ≡ gathered rows (length rows) → column_within s.orders gone given ≡ true
          → (column : List ℕ) → take gone column ≡ departure
          → (room released keeps left : Bool) → room ≡ each (λ i. leb (count (λ j. eqb (at given.train j) i) s.orders) (s.capacity i)) gone
          → released ≡ every (λ j. eqb (at given.train j) 0 || leb (s.release j) (nth column (at given.train j))) s.orders
          → keeps ≡ allowed s.paths gone (nth column)
          → left ≡ each (λ i. leb (nth column i) (nth (replicate train_counts.most minute) i)) gone
          → (((room && released) && keeps) && left) ≡ went_well s g
      well_given given e w column is room released keeps left u v o l =
          rw o (well_tested (rw e at w) column is room released left (rw e at u) (rw e at v) l)
