-- Laws by which code is shown to compute step 2, a branch or a turn at a time. Assumes nothing.
use Rattle.std.specs.Prelude.{◌≡◌, ◌⊎◌, Bool, true, false, cond, ◌&&◌, Option, IfSome, eqb, List, [], ◌∷◌, ◌++◌, leb, ltb, length, set, take, replicate}
use Rattle.std.proofs.Math.Path.{refl, sym}
use Rattle.std.proofs.Common.{ap, ◌∙◌, subst, inl, inr, add-one, length-set, take_all, take-suc, get_or-take, get_or-set_same, get_or-set_other, ext_get_or}
use Prim.Native.Nat.{ℕ, zero, suc, ◌+◌, ◌-◌, ◌≤◌, ◌<◌, max}
use native.Mathlib.Omega.{arith}
use Rattle.std.proofs.Math.Dec.{T}
use Rattle.std.specs.Bool.{then_some}
use Rattle.std.proofs.Math.Seq.{take-suc-set}
use borrow.Author.Tests.{eq-eqb, ne_eqb}
use Rattle.numbers.specs.Counting.{at, nth, table, row, each}
use Rattle.numbers.specs.DecidesLaws.{Decides, decided, decides_eq, decides_le, decides_lt, decides_and}
use Rattle.numbers.specs.CountingLaws.{table_length, table_at}
use Rattle.numbers.specs.ListLaws.{take_replicate}
use Rattle.columns.specs.Columns.{UpTo}
use Rattle.columns.proofs.ColumnLaws.{nth_at}
use Rattle.model.specs.Sheet.{Windows, windows, timetable, Sheet}
use Rattle.model.specs.Arrival.{arrival_behind, arrival}
use Rattle.model.proofs.ArrivalLaws.{arrival_first, arrival_next}
use Rattle.model.specs.Limits.{last_instant, train_counts}
use Rattle.model.specs.Memory.{paths_by, sheet_of}
use Rattle.model.specs.declared.Form.{Form}
use Rattle.model.specs.declared.Sheet as memory
use Rattle.rounds.proofs.TimingLaws.{FirstWindow, all_over, first_is, first_window_is}
use Rattle.rounds.specs.Timing.{awaited, first_window, earliest, none, departed, leave, next_departure, departures}
use Rattle.rounds.specs.Timing.{arrive, on_timetable, stopped, timed, timing}
use Rattle.rounds.proofs.SameOutsetLaws.{timing_same}
use Rattle.rounds.specs.Rounds.{times}
use Rattle.timing.specs.Timed.{departed_in, timed_in, times_since, WindowsOver, HaveLeft}
use Rattle.timing.specs.declared.Leaving.{Leaving}
use Rattle.timing.specs.declared.Times.{Times}

-- a list is the row of its elements
pub row_nth : (l : List ℕ) (q : ℕ) → q ≤ length l → row (nth l) q ≡ take q l
unfolding table
row_nth l zero h = refl
row_nth l (suc q) h = rw (take-suc l q 0, row_nth l q (omega arith), nth_at l q)

-- ---- what the trains await

pub releases_none : (since : List ℕ) (release : ℕ → ℕ) (train : List ℕ) → length since ≡ train_counts.most
    → since ≡ row (awaited (nth since) release train 0) train_counts.most
unfolding awaited
releases_none since release train long = sym (row_nth since train_counts.most (omega arith) ∙ take_all train_counts.most since (omega arith))

module _ (since release : ℕ → ℕ) (train : List ℕ) where
  awaited_own : (j i : ℕ) → at train j ≡ i → max (release j) (awaited since release train j i) ≡ awaited since release train (j + 1) i
  unfolding awaited
  awaited_own j i e = rw (add-one, eq-eqb (at train j) i e)

  awaited_other : (j i : ℕ) → ¬ (at train j ≡ i) → awaited since release train j i ≡ awaited since release train (j + 1) i
  unfolding awaited
  awaited_other j i e = rw (add-one, ne_eqb (at train j) i e) (omega arith)

  -- the order at place j, on train t, is counted in
  pub releases_more : (q j t : ℕ) (l : List ℕ) → l ≡ row (awaited since release train j) q → at train j ≡ t → 1 ≤ t → t ≤ q
      → set l (t - 1) (max (release j) (at l (t - 1))) ≡ row (awaited since release train (j + 1)) q
  releases_more q j t l e on some few =
      ext_get_or 0 (set l (t - 1) v) (row (awaited since release train (j + 1)) q) (long ∙ sym (table_length _ q))
      (λ k h. go k (omega (arith, long)) (decided (decides_eq k (t - 1))))
    where
      v : ℕ
      v = max (release j) (at l (t - 1))

      size : length l ≡ q
      size = ap (λ (x : List ℕ). length x) e ∙ table_length (λ m. awaited since release train j (suc m)) q

      long : length (set l (t - 1) v) ≡ q
      long = length-set l (t - 1) v ∙ size

      old : (k : ℕ) → k < q → at l k ≡ awaited since release train j (suc k)
      old k h = ap (λ (x : List ℕ). at x k) e ∙ table_at (λ m. awaited since release train j (suc m)) 0 q k h

      go : (k : ℕ) → k < q → (k ≡ t - 1) ⊎ (¬ (k ≡ t - 1)) → at (set l (t - 1) v) k ≡ at (row (awaited since release train (j + 1)) q) k
      go k h (inl u) =
          let here : at train j ≡ suc k = omega arith in
          rw (← u, get_or-set_same l k (max (release j) (at l k)) 0 (omega (arith, size)), old k h, awaited_own j (suc k) here)
          (sym (table_at (λ m. awaited since release train (j + 1) (suc m)) 0 q k h))
      go k h (inr u) =
          get_or-set_other l (t - 1) k v 0 u ∙ old k h ∙ awaited_other j (suc k) (λ w. u (omega arith))
          ∙ sym (table_at (λ m. awaited since release train (j + 1) (suc m)) 0 q k h)

-- ---- windows

module _ (to : List ℕ) (t : ℕ) where
  pub over_more : (m : ℕ) → WindowsOver to t m → at to m < t → WindowsOver to t (m + 1)
  over_more m h e k l = go (decided (decides_eq k m))
    where
      go : (k ≡ m) ⊎ (¬ (k ≡ m)) → at to k < t
      go (inl u) = rw u e
      go (inr u) = h k (omega arith)

  pub no_window : (v : ℕ) → WindowsOver to t v → 0 ≡ first_window (nth to) t v
  no_window v h = go (first_window (nth to) t v) (first_window_is (nth to) t v)
    where
      go : (r : ℕ) → FirstWindow (nth to) t v r → 0 ≡ r
      go r (all_over f) = refl
      go r (first_is k few not_over before) = absurd (omega (arith, h k (omega arith), nth_at to k))

  -- the first one that is not over is the first of all
  pub window_first : (v m : ℕ) → m < v → WindowsOver to t m → t ≤ at to m → suc m ≡ first_window (nth to) t v
  window_first v m l h e = go (first_window (nth to) t v) (first_window_is (nth to) t v)
    where
      go : (r : ℕ) → FirstWindow (nth to) t v r → suc m ≡ r
      go r (all_over f) = absurd (omega (arith, f (suc m) (omega arith) (omega arith), nth_at to m))
      go r (first_is k few not_over before) = same (decided (decides_le m k)) (decided (decides_le k m))
        where
          same : (m ≤ k) ⊎ (¬ (m ≤ k)) → (k ≤ m) ⊎ (¬ (k ≤ m)) → suc m ≡ suc k
          same (inl u) (inl w) = omega arith
          same (inr u) w = absurd (omega (arith, h k (omega arith), nth_at to k))
          same (inl u) (inr w) = absurd (omega (arith, before (suc m) (omega arith) (omega arith), nth_at to m))

-- ---- the instant to await

pub earliest_first : (g : ℕ) (l : List ℕ) (r : ℕ) → max 0 r ≡ earliest g (take 0 l) 0 r
unfolding earliest
earliest_first g l r = omega arith

-- behind train i + 1, which leaves at instant v
pub earliest_behind : (g : ℕ) (l : List ℕ) (i v r : ℕ) → i < length l → max (v + g) r ≡ earliest g (take (i + 1) (set l i v)) (i + 1) r
unfolding earliest
earliest_behind g l i v r h =
    let u : suc i - 1 ≡ i = omega arith in
    let e : at (take (suc i) (set l i v)) (suc i - 1) ≡ v = rw u (get_or-take (suc i) (set l i v) i 0 (omega arith) ∙ get_or-set_same l i v 0 h) in
    rw (add-one, e)

-- ---- departures

module _ (w : Windows) (released : ℕ → ℕ) where
  departures_none : (k i : ℕ) → i ≤ k → departures w released i ≡ none → departures w released k ≡ none
  unfolding departures next_departure
  departures_none zero i l e = let z : i ≡ 0 = omega arith in rw z at e
  departures_none (suc k) i l e = go (decided (decides_eq i (suc k))) (λ h. departures_none k i h e)
    where
      go : (i ≡ suc k) ⊎ (¬ (i ≡ suc k)) → (i ≤ k → departures w released k ≡ none)
          → next_departure w k (released (suc k)) (departures w released k) ≡ none
      go (inl s) ih = rw s at e
      go (inr s) ih = rw (ih (omega arith))

  pub departures_first : departures w released 0 ≡ departed [] []
  unfolding departures
  departures_first = refl

  module _ (l window : List ℕ) (i t m : ℕ) (ahead : departures w released i ≡ departed (take i l) (take i window))
      (et : t ≡ earliest w.gap (take i l) i (released (suc i))) (em : m ≡ first_window w.to t w.count) where
    turn : departures w released (suc i) ≡ leave w t (take i l) (take i window) m
    unfolding departures next_departure
    turn = rw (ahead, sym et, sym em)

    -- no window for train i + 1: none for the trains together
    pub departures_stop : m ≡ 0 → (q : ℕ) → i < q → none ≡ departures w released q
    unfolding leave
    departures_stop e q h = sym (departures_none q (suc i) h (turn ∙ rw e))

    -- train i + 1 leaves in window m
    pub departures_next : ¬ (m ≡ 0) → i < length l → i < length window
        → departures w released (i + 1) ≡ departed (take (i + 1) (set l i (max t (w.from m)))) (take (i + 1) (set window i m))
    unfolding leave
    departures_next e h h' = rw (add-one, take-suc-set l i (max t (w.from m)) h, take-suc-set window i m h') (turn ∙ go m e)
      where
        go : (m : ℕ) → ¬ (m ≡ 0) → leave w t (take i l) (take i window) m ≡ departed (take i l ++ (max t (w.from m) ∷ [])) (take i window ++ (m ∷ []))
        go zero e = absurd (e refl)
        go (suc m) e = refl

-- ---- trains that have left

pub left_none : HaveLeft 0 (replicate train_counts.most 0)
left_none = (refl, λ k l. absurd (omega arith))

pub left_more : (l : List ℕ) (i v : ℕ) → i < train_counts.most → v ≤ last_instant → HaveLeft i l → HaveLeft (i + 1) (set l i v)
left_more l i v few h (long, early) = (length-set l i v ∙ long, λ k m. go k m (decided (decides_eq k i)))
  where
    go : (k : ℕ) → k < i + 1 → (k ≡ i) ⊎ (¬ (k ≡ i)) → at (set l i v) k ≤ last_instant
    go k m (inl e) = rw (e, get_or-set_same l i v 0 (omega (arith, long))) h
    go k m (inr e) = rw (get_or-set_other l i k v 0 e) (early k (omega arith))

-- whether a train and a window are still to come: i of q trains have left, and m of v windows are over
module _ (i q m v : ℕ) where
  to_come : Decides ((i < q) × (m < v)) (ltb i q && ltb m v)
  to_come = decides_and (decides_lt i q) (decides_lt m v)

  pub both_to_come : (ltb i q && ltb m v) ≡ true → (i < q) × (m < v)
  both_to_come e = to_come.sound (subst T (sym e) tt)

  pub one_at_end : (ltb i q && ltb m v) ≡ false → i ≤ q → m ≤ v → (i ≡ q) ⊎ ((i < q) × (m ≡ v))
  one_at_end e a b = go (decided (decides_lt i q)) (decided (decides_lt m v))
    where
      go : (i < q) ⊎ (¬ (i < q)) → (m < v) ⊎ (¬ (m < v)) → (i ≡ q) ⊎ ((i < q) × (m ≡ v))
      go (inr h) k = inl (omega arith)
      go (inl h) (inr k) = inr (h, omega arith)
      go (inl h) (inl k) = absurd (subst T e (to_come.complete (h, k)))

-- what is told where i of q trains have left
module _ (r : Leaving) (i q : ℕ) where
  abbrev pub told : Option Leaving
  told = then_some (eqb i q) r

  pub all_left : i ≡ q → departed_in q told ≡ departed (take q r.departure) (take q r.window)
  all_left e = rw (eq-eqb i q e)

  pub some_never : i < q → departed_in q told ≡ none
  some_never more = let e : ¬ (i ≡ q) = λ z. omega arith in rw (ne_eqb i q e)

  pub left_in_time : UpTo last_instant i r.departure → IfSome told (λ r. UpTo last_instant q r.departure)
  left_in_time early = go (decided (decides_eq i q))
    where
      go : (i ≡ q) ⊎ (¬ (i ≡ q)) → IfSome told (λ r. UpTo last_instant q r.departure)
      go (inl e) = rw (eq-eqb i q e) (rw e at early)
      go (inr e) = rw (ne_eqb i q e) tt

-- ---- arrivals

-- the store of element number i + 1, behind those before it
row_store : (f : ℕ → ℕ) (l : List ℕ) (i v : ℕ) → take i l ≡ row f i → i < length l → v ≡ f (suc i) → take (suc i) (set l i v) ≡ row f (suc i)
unfolding table
row_store f l i v e h u = take-suc-set l i v h ∙ rw (e, u)

module _ (g : ℕ) (p : ℕ → ℕ) where
  arrival_is_behind : (S : ℕ → ℕ) (i : ℕ) → ¬ (i ≡ 0) → max (S (suc i) + p (suc i)) (arrival_behind g p S i + g) ≡ arrival_behind g p S (suc i)
  arrival_is_behind S zero e = absurd (e refl)
  arrival_is_behind S (suc i) e = sym (arrival_next g p S i)

  -- departures that agree give the same arrivals
  arrival_same : (S T : ℕ → ℕ) (i : ℕ) → ((k : ℕ) → 1 ≤ k → k ≤ i → S k ≡ T k) → arrival_behind g p S i ≡ arrival_behind g p T i
  unfolding arrival_behind
  arrival_same S T zero h = refl
  arrival_same S T (suc zero) h = rw (h 1 (omega arith) (omega arith))
  arrival_same S T (suc (suc i)) h =
      rw (h (suc (suc i)) (omega arith) (omega arith), arrival_same S T (suc i) (λ k a b. h k a (omega arith)))

  -- only the departures of the q trains count
  pub row_arrivals : (departure : List ℕ) (q : ℕ) → row (arrival_behind g p (nth departure)) q ≡ row (arrival_behind g p (nth (take q departure))) q
  unfolding table
  row_arrivals departure q = go q (omega arith)
    where
      go : (k : ℕ) → k ≤ q → row (arrival_behind g p (nth departure)) k ≡ row (arrival_behind g p (nth (take q departure))) k
      go zero h = refl
      go (suc k) h =
          rw (
            go k (omega arith),
            arrival_same (nth departure) (nth (take q departure)) (suc k) (λ m a b. sym (get_or-take q departure (m - 1) 0
                (omega arith))),
          )

module _ (g : ℕ) (running departure : List ℕ) where
  abbrev arrives : ℕ → ℕ
  arrives = arrival_behind g (nth running) (nth departure)

  pub arrivals_first : (i own : ℕ) → i ≡ 1 → own ≡ nth departure i + nth running i → take i (replicate train_counts.most own) ≡ row arrives i
  unfolding table
  arrivals_first i own e w = rw e (ap (λ (t : ℕ). t ∷ []) ((rw e at w) ∙ sym (arrival_first g (nth running) (nth departure))))

  -- the arrivals of trains 1 to i, where l has those of the trains ahead of train i
  module _ (l : List ℕ) where
    pub ahead_is : (j : ℕ) → take j l ≡ row arrives j → ¬ (j ≡ 0) → at l (j - 1) ≡ arrives j
    ahead_is zero e h = absurd (h refl)
    ahead_is (suc j) e h =
        let u : suc j - 1 ≡ j = omega arith in
        rw u (sym (get_or-take (suc j) l j 0 (omega arith)) ∙ ap (λ (x : List ℕ). at x j) e ∙ table_at (λ m. arrives (suc m)) 0 (suc j) j (omega arith))

    pub arrivals_more : (i v : ℕ) → ¬ (i ≡ 0) → i ≤ length l → take (i - 1) l ≡ row arrives (i - 1) → v ≡ arrives i → take i (set l (i - 1) v) ≡ row arrives i
    arrivals_more zero v some few e w = absurd (some refl)
    arrivals_more (suc j) v some few e w =
        let u : suc j - 1 ≡ j = omega arith in rw u (row_store arrives l j v (rw u at e) few w)

    -- train i runs behind the one ahead
    pub arrives_behind : (i own : ℕ) → 2 ≤ i → own ≡ nth departure i + nth running i → take (i - 1) l ≡ row arrives (i - 1)
        → max (at l (i - 1 - 1) + g) own ≡ arrives i
    arrives_behind zero own some e h = absurd (omega arith)
    arrives_behind (suc j) own some e h =
        let u : suc j - 1 ≡ j = omega arith in
        let last : at l (suc j - 1 - 1) ≡ arrives j = rw u (ahead_is j (rw u at h) (λ z. omega arith)) in
        rw (last, e) (swap (arrives j + g) _ ∙ arrival_is_behind g (nth running) (nth departure) j (λ z. omega arith))
      where
        swap : (a b : ℕ) → max a b ≡ max b a
        swap a b = omega arith

-- ---- the timing, whole

-- times that are told only where a test passes
pub timed_when : (q : ℕ) (t : Times) (b : Bool) → timed_in q (then_some b t) ≡ cond b (timed (take q t.departure) (take q t.arrival) (take q t.window)) stopped
timed_when q t true = refl
timed_when q t false = refl

module _ (w : Windows) (released : ℕ → ℕ) (q : ℕ) where
  pub windows_timed : (departure arrival window : List ℕ) → departed (take q departure) (take q window) ≡ departures w released q
      → take q arrival ≡ row (arrival_behind w.gap w.running (nth departure)) q
      → timed (take q departure) (take q arrival) (take q window) ≡ timing (windows w) q released
  unfolding timing arrive
  windows_timed departure arrival window e f =
      rw (← e) (ap (λ (F : List ℕ). timed (take q departure) F (take q window)) (f ∙ row_arrivals w.gap w.running departure q))

  pub windows_stopped : none ≡ departures w released q → stopped ≡ timing (windows w) q released
  unfolding timing arrive
  windows_stopped e = rw (← e)

module _ (departure arrival : List ℕ) (q : ℕ) where
  -- a timetable's windows are 0
  pub fixed_timed : (b : Bool) → q ≤ train_counts.most → length departure ≡ train_counts.most → length arrival ≡ train_counts.most
      → cond b (timed (take q departure) (take q arrival) (take q (replicate train_counts.most 0))) stopped
      ≡ cond b (timed (row (nth departure) q) (row (nth arrival) q) (replicate q 0)) stopped
  fixed_timed b few long long' =
      rw (row_nth departure q (omega arith), row_nth arrival q (omega arith), take_replicate {A = ℕ} q train_counts.most 0 few)

  pub timetable_timed : (released : ℕ → ℕ) (b : Bool) → b ≡ each (λ i. leb (released i) (nth departure i)) q
      → cond b (timed (row (nth departure) q) (row (nth arrival) q) (replicate q 0)) stopped
      ≡ timing (timetable (record { departure = nth departure; arrival = nth arrival })) q released
  unfolding timing on_timetable
  timetable_timed released b e = rw e

-- the releases of all trains there can be, of which q count; the form decides which timing it is
pub timed_by_form : (m : memory.Sheet) (train since released : List ℕ) (form : Form) → m.form ≡ form → m.train_count ≤ train_counts.most
    → released ≡ row (awaited (nth since) (at m.release) (take m.order_count train) m.order_count) train_counts.most
    → timing (paths_by form m) m.train_count (nth released) ≡ times_since (sheet_of m) (nth since) (take m.order_count train)
timed_by_form m train since released form is few e =
    timing_same (nth released) f (paths_by form m) q same ∙ ap (λ (form : Form). timing (paths_by form m) q f) (sym is)
  where
    q : ℕ
    q = m.train_count

    f : ℕ → ℕ
    f = awaited (nth since) (at m.release) (take m.order_count train) m.order_count

    same : (i : ℕ) → 1 ≤ i → i ≤ q → nth released i ≡ f i
    same zero some l = absurd (omega arith)
    same (suc k) some l =
        nth_at released k ∙ ap (λ (x : List ℕ). at x k) e ∙ table_at (λ j. f (suc j)) 0 train_counts.most k (omega arith)

-- the form decides which arrivals follow from the departures
pub arrived_by_form : (m : memory.Sheet) (departure arrivals : List ℕ) (form : Form) → m.form ≡ form
    → take m.train_count arrivals ≡ row (arrival (paths_by form m) (nth departure)) m.train_count
    → take m.train_count arrivals ≡ row (arrival (sheet_of m).paths (nth departure)) m.train_count
arrived_by_form m departure arrivals form is e =
    e ∙ ap (λ (form : Form). row (arrival (paths_by form m) (nth departure)) m.train_count) (sym is)

-- ---- no instant of its own

-- a column of noughts has 0 at every place, and beyond its end
pub noughts : (k j : ℕ) → at (replicate k 0) j ≡ 0
noughts zero j = refl
noughts (suc k) zero = refl
noughts (suc k) (suc j) = noughts k j

-- trains that have no instant of their own to wait for
pub since_none : (s : Sheet) (train : List ℕ) → times_since s (nth (replicate 32 0)) train ≡ times s train
since_none s train = λ k. times_since s (λ i. noughts 32 (i - 1) k) train
