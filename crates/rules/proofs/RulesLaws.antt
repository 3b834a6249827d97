-- Laws by which code is shown to test the rules of a schedule, and to find its pair. Assumes nothing.
use Rattle.std.specs.Prelude.{◌≡◌, refl, Bool, true, ◌&&◌, ◌||◌, List, ℕ, zero, suc, ◌+◌, ◌-◌, ◌≤◌, ◌<◌, eqb, length, take}
use Rattle.std.proofs.Common.{sym, ◌∙◌, add-one, arith, length-take-le, get_or-take, ext_get_or, eq-eqb, ne_eqb}
use Rattle.std.proofs.Math.Path.{ap}
use Rattle.std.specs.Bool as equality
use Rattle.std.proofs.lemmas.Bool.Decides.{same_from_decides}
use Rattle.std.proofs.Math.Dec.{leb}
use Rattle.numbers.specs.Counting.{at, nth, row, count, every, each}
use Rattle.numbers.specs.CountingLaws.{count_cong, every_more, every_same, every_same_below, table_at}
use Rattle.numbers.specs.DecidesLaws.{Decides, decides_eq, decides_iff, decides_every, decides_each, numbered, test_true, test_means}
use Rattle.model.specs.Sheet.{Paths, windows, timetable, Sheet}
use Rattle.model.specs.Limits.{◌–◌, Inside, inside, last_instant, last_arrival}
use Rattle.model.specs.Memory.{paths_by, sheet_of}
use Rattle.model.specs.Arrival.{arrival}
use Rattle.model.specs.Lateness.{worst}
use Rattle.model.specs.Schedule.{Schedule}
use Rattle.model.specs.ScheduleTest.{in_a_window, allowed, room, released, is_schedule}
use Rattle.model.specs.Admission.{Admitted}
use Rattle.model.proofs.AdmissionLaws.{decides_inside}
use Rattle.model.specs.declared.Form.{Form}
use Rattle.model.specs.declared.Sheet as memory
use Rattle.rounds.proofs.ScheduleLaws.{worst_same, rule}
use Rattle.columns.specs.Columns.{UpTo, Loaded}
use Rattle.columns.proofs.ColumnLaws.{nth_at}
use Rattle.timing.proofs.TimingStepLaws.{row_arrivals}

-- ---- one train more

-- the train at place i carries no more orders than it has places
pub room_more : (capacity train : List ℕ) (n i : ℕ)
    → (leb (count (λ j. eqb (at train j) (i + 1)) n) (at capacity i)
    && every (λ m. leb (count (λ j. eqb (at train j) (suc m)) n) (nth capacity (suc m))) i)
    ≡ every (λ m. leb (count (λ j. eqb (at train j) (suc m)) n) (nth capacity (suc m))) (i + 1)
room_more capacity train n i = rw (every_more, nth_at capacity i) (simp add-one)

-- the train at place i leaves a gap behind the train ahead, at place i − 1
pub spaced_more : (gap : ℕ) (departure : List ℕ) (i : ℕ) → 1 ≤ i
    → (leb (at departure (i - 1) + gap) (at departure i) && every (λ m. leb (nth departure (suc m) + gap) (nth departure (suc (suc m)))) (i - 1))
    ≡ every (λ m. leb (nth departure (suc m) + gap) (nth departure (suc (suc m)))) (i + 1 - 1)
spaced_more gap departure zero l = absurd (omega arith)
spaced_more gap departure (suc i) l =
    let e : suc i - 1 ≡ i = omega arith in
    let f : suc i + 1 - 1 ≡ i + 1 = omega arith in
    rw (e, f, every_more, nth_at departure i, nth_at departure (suc i))

-- ---- the departures

-- the first q elements of two columns are one list exactly where each is the same
pub same_by_number : (a b : List ℕ) (q : ℕ) → q ≤ length a → q ≤ length b → (r : Bool) → equality.Decides r (take q a ≡ take q b)
    → r ≡ each (λ i. eqb (nth a i) (nth b i)) q
same_by_number a b q l m r d =
    same_from_decides r _ d (test_means each_decides, test_true each_decides)
  where
    one_list : take q a ≡ take q b → (i : ℕ) → 1 ≤ i → i ≤ q → nth a i ≡ nth b i
    one_list e i u v = sym (get_or-take q a (i - 1) 0 (omega arith)) ∙ ap (λ (x : List ℕ). at x (i - 1)) e ∙ get_or-take q b (i - 1) 0 (omega arith)

    by_number : ((i : ℕ) → 1 ≤ i → i ≤ q → nth a i ≡ nth b i) → take q a ≡ take q b
    by_number h =
        ext_get_or 0 (take q a) (take q b) (length-take-le q a l ∙ sym (length-take-le q b m))
        (λ j k. let few : j < q = omega (arith, length-take-le q a l) in
        get_or-take q a j 0 few ∙ sym (nth_at a j) ∙ h (suc j) (omega arith) (omega arith) ∙ nth_at b j ∙ sym (get_or-take q b j 0 few))

    each_decides : Decides (take q a ≡ take q b) (each (λ i. eqb (nth a i) (nth b i)) q)
    each_decides = decides_iff by_number one_list (decides_each {P = λ i. nth a i ≡ nth b i} (λ i. decides_eq (nth a i) (nth b i)) q)

-- the form decides which departures are allowed
pub allowed_by_form : (m : memory.Sheet) (q : ℕ) (S : ℕ → ℕ) (form : Form) → m.form ≡ form
    → allowed (paths_by form m) q S ≡ allowed (sheet_of m).paths q S
allowed_by_form m q S form is = ap (λ (form : Form). allowed (paths_by form m) q S) (sym is)

-- only the departures of the q trains count
pub allowed_same : (p : Paths) (q : ℕ) (S T : ℕ → ℕ) → ((i : ℕ) → 1 ≤ i → i ≤ q → S i ≡ T i) → allowed p q S ≡ allowed p q T
allowed_same (windows w) q S T h =
    ap (λ (b : Bool). b && each (λ i. leb (S i + w.gap) (S (suc i))) (q - 1))
    (every_same_below _ _ q (λ j l. ap (in_a_window w) (h (suc j) (omega arith) (omega arith))))
    ∙ ap (λ (b : Bool). each (λ i. in_a_window w (T i)) q && b)
    (every_same_below _ _ (q - 1) (λ j l. rw (h (suc j) (omega arith) (omega arith), h (suc (suc j)) (omega arith) (omega arith))))
allowed_same (timetable t) q S T h =
    every_same_below _ _ q (λ j l. ap (λ (x : ℕ). eqb x (t.departure (suc j))) (h (suc j) (omega arith) (omega arith)))

-- ---- the releases

-- where every order has a train, the test passes over none
pub all_ride : (release departure train : List ℕ) (n : ℕ) → ((j : ℕ) → j < n → 1 ≤ at train j)
    → every (λ j. eqb (at train j) 0 || leb (at release j) (nth departure (at train j))) n ≡ every (λ j. leb (at release j) (nth departure (at train j))) n
all_ride release departure train n loaded =
    every_same_below _ _ n (λ j l. let some : ¬ (at train j ≡ 0) = λ e. omega (arith, loaded j l) in rw (ne_eqb (at train j) 0 some))

-- ---- the whole test

-- the first three tests of six pass
last_three : (a b c d e f d' e' f' : Bool) → a ≡ true → b ≡ true → c ≡ true → d ≡ d' → e ≡ e' → f ≡ f'
    → (a && b && c && d && e && f) ≡ (d' && e' && f')
last_three a b c d e f d' e' f' t t' t'' u v w = rw (t, t', t'', u, v, w)

module _ (s : Sheet) (train departure : List ℕ) where
  -- the columns' first elements, which count
  abbrev trains : List ℕ
  trains = take s.orders train

  abbrev departures : List ℕ
  departures = take s.trains departure

  train_is : (j : ℕ) → j < s.orders → at trains j ≡ at train j
  train_is j l = get_or-take s.orders train j 0 l

  departure_is : (i : ℕ) → 1 ≤ i → i ≤ s.trains → nth departures i ≡ nth departure i
  departure_is i a b = get_or-take s.trains departure (i - 1) 0 (omega arith)

  carried_same : (i : ℕ) → count (λ j. eqb (at trains j) i) s.orders ≡ count (λ j. eqb (at train j) i) s.orders
  carried_same i =
      count_cong (λ j. decides_eq (at trains j) i) (λ j. decides_eq (at train j) i) s.orders (λ j l h. omega (arith, train_is j l))
      (λ j l h. omega (arith, train_is j l))

  module _ (h : Loaded s train) where
    loaded : every (λ j. inside (1 – s.trains) (at trains j)) s.orders ≡ true
    loaded =
        test_true (decides_every {P = λ j. Inside (1 – s.trains) (at trains j)} (λ j. decides_inside (1 – s.trains) (at trains j)) s.orders)
        (λ j l. rw (train_is j l) (h j l))

    released_same : released s trains departures ≡ released s train departure
    released_same =
        every_same_below _ _ s.orders
        (λ j l. ap (leb (s.release j)) (ap (nth departures) (train_is j l) ∙ departure_is (at train j) (h j l).0 (h j l).1))

    pub tests_schedule : s.orders ≤ length train → s.trains ≤ length departure
        → is_schedule s trains departures ≡ (room s train && released s train departure && allowed s.paths s.trains (nth departure))
    unfolding is_schedule
    tests_schedule long long' =
        last_three (eqb (length trains) s.orders) (every (λ j. inside (1 – s.trains) (at trains j)) s.orders)
        (eqb (length departures) s.trains) (room s trains) (released s trains departures) (allowed s.paths s.trains (nth departures))
        _ _ _
        (eq-eqb (length trains) s.orders (length-take-le s.orders train long))
        loaded
        (eq-eqb (length departures) s.trains (length-take-le s.trains departure long'))
        (every_same _ _ (λ m. ap (λ (k : ℕ). leb k (s.capacity (suc m))) (carried_same (suc m))) s.trains)
        released_same
        (allowed_same s.paths s.trains (nth departures) (nth departure) departure_is)

-- ---- the pair

-- only the departures of the q trains count
row_arrived : (p : Paths) (departure : List ℕ) (q : ℕ) → row (arrival p (nth departure)) q ≡ row (arrival p (nth (take q departure))) q
row_arrived (windows w) departure q = row_arrivals w.gap w.running departure q
row_arrived (timetable t) departure q = refl

module _ (s : Sheet) (a : Admitted s) (train departure : List ℕ) (h : Schedule s (take s.orders train) (take s.trains departure)) where
  -- the arrivals that the schedule brings
  abbrev F : ℕ → ℕ
  F = arrival s.paths (nth (take s.trains departure))

  pub leaves_in_time : UpTo last_instant s.trains departure
  leaves_in_time j l =
      let early = (rule s a).departures_bounded (nth (take s.trains departure)) h.departures (suc j) (omega arith) l in
      omega (arith, early, nth_at (take s.trains departure) j, get_or-take s.trains departure j 0 l)

  module _ (arrivals : List ℕ) (e : take s.trains arrivals ≡ row (arrival s.paths (nth departure)) s.trains) where
    arrives_at : (j : ℕ) → j < s.trains → at arrivals j ≡ F (suc j)
    arrives_at j l =
        sym (get_or-take s.trains arrivals j 0 l)
        ∙ ap (λ (x : List ℕ). at x j) (e ∙ row_arrived s.paths departure s.trains)
        ∙ table_at (λ m. F (suc m)) 0 s.trains j l

    pub arrives_in_time : UpTo last_arrival s.trains arrivals
    arrives_in_time j l =
        omega (arith, arrives_at j l, (rule s a).arrivals_bounded (nth (take s.trains departure)) h.departures (suc j) (omega arith) l)

    -- the arrival of train i
    pub arrival_is : (i : ℕ) → 1 ≤ i → i ≤ s.trains → nth arrivals i ≡ F i
    arrival_is = numbered (λ i. nth arrivals i ≡ F i) s.trains (λ j l. nth_at arrivals j ∙ arrives_at j l)

    pub worst_is : worst s (take s.orders train) (nth arrivals) ≡ worst s (take s.orders train) F
    worst_is =
        worst_same s a.complete.orders (take s.orders train) (nth arrivals) F
        (λ j l. let (some, few) = h.on_a_train j l in arrival_is (at (take s.orders train) j) some few)
