-- WHAT THE THEORY ASKS OF A FORM'S TIMING, and that the window form and the timetable form both keep it. Assumes nothing.
use Rattle.std.specs.Prelude.{◌≡◌, Bool, cond, List, length}
use Rattle.std.proofs.Math.Bool.{true, false}
use Prim.Native.Nat.{ℕ, zero, suc, ◌-◌, ◌≤◌, ◌<◌}
use native.Mathlib.Omega.{arith}
use Rattle.std.proofs.Math.Nat.{mul-le-mul}
use Rattle.std.proofs.Math.Dec.{leb}
use Rattle.std.proofs.Math.ListN.{replicate, get_or-replicate}
use Rattle.std.proofs.lemmas.List.{length-replicate}
use Rattle.numbers.specs.Counting.{nth, row, each}
use Rattle.numbers.specs.DecidesLaws.{Decides, decides_le, decides_each, numbered}
use Rattle.numbers.specs.CountingLaws.{table_length, table_at}
use Rattle.model.specs.Sheet.{Windows, Timetable, Paths, windows, timetable}
use Rattle.model.specs.Schedule.{InWindows, Departures}
use Rattle.model.specs.Booking.{BookedBy}
use Rattle.model.specs.Arrival.{arrival, arrival_behind}
use Rattle.model.proofs.ArrivalLaws.{behind_by_the_gap, arrival_bound}
use Rattle.model.specs.Admission.{WindowsInRange, TimesInRange, PathsInRange, WindowsInOrder, TimesInOrder, PathsInOrder}
use Rattle.rounds.specs.Timing.{Timed, stopped, timed, Departed, departures, arrive, on_timetable, timing}
use Rattle.rounds.proofs.TimingLaws.{climbs, in_one_window, Covers, Earliest, none_can, earliest_are, departures_are}

-- trains 1 .. q that depart at S, and so arrive at `arrives S`, depart and arrive no later than at S'
abbrev pub NoLater : (q : ℕ) (arrives : (ℕ → ℕ) → ℕ → ℕ) (S S' : ℕ → ℕ) → Type 0
NoLater q arrives S S' = (i : ℕ) → 1 ≤ i → i ≤ q → (S i ≤ S' i) × (arrives S i ≤ arrives S' i)

-- the departures of trains 1 .. q that are allowed, the arrivals that they bring, and the windows by which they are booked
module _ (q : ℕ) (Allowed : (ℕ → ℕ) → Type 0) (arrives : (ℕ → ℕ) → ℕ → ℕ) (Books : (t m : ℕ) → Type 0) where
  -- what timing for these releases comes to: no allowed departures cover them; or the least that do, with their arrivals and windows
  pub data Outcome (released : ℕ → ℕ) : Timed → Type 0 where
    none_covers : ((S : ℕ → ℕ) → Allowed S → ¬ Covers q released S) → Outcome released stopped
    least_run : {S F W : List ℕ} → length S ≡ q → length F ≡ q → ((i : ℕ) → 1 ≤ i → i ≤ q → nth F i ≡ arrives (nth S) i)
        → length W ≡ q → ((i : ℕ) → 1 ≤ i → i ≤ q → Books (nth S i) (nth W i))
        → Allowed (nth S) → Covers q released (nth S) → ((S' : ℕ → ℕ) → Allowed S' → Covers q released S' → NoLater q arrives (nth S) S')
        → Outcome released (timed S F W)

  -- THE INTERFACE: departures and arrivals rise by train and are in the table's range, and each timing has such an outcome
  pub record TimingRule (time : (released : ℕ → ℕ) → Timed) : Type 0 where
    pub departures_rise : (S : ℕ → ℕ) → Allowed S → (i k : ℕ) → 1 ≤ i → i ≤ k → k ≤ q → S i ≤ S k
    pub arrivals_rise : (S : ℕ → ℕ) → Allowed S → (i k : ℕ) → 1 ≤ i → i ≤ k → k ≤ q → arrives S i ≤ arrives S k
    pub departures_bounded : (S : ℕ → ℕ) → Allowed S → (i : ℕ) → 1 ≤ i → i ≤ q → S i ≤ 100000
    pub arrivals_bounded : (S : ℕ → ℕ) → Allowed S → (i : ℕ) → 1 ≤ i → i ≤ q → arrives S i ≤ 160000
    pub outcome : (released : ℕ → ℕ) → Outcome released (time released)

-- both of the trains' paths, in either form
abbrev pub RunOn : Paths → (q : ℕ) (released : ℕ → ℕ) → Timed → Type 0
RunOn f q = Outcome q (Departures f q) (arrival f) (BookedBy f)

abbrev pub RuleOf : Paths → (q : ℕ) → Type 0
RuleOf f q = TimingRule q (Departures f q) (arrival f) (BookedBy f) (timing f q)

-- element i of a row
row_at : (f : ℕ → ℕ) (q : ℕ) (i : ℕ) → 1 ≤ i → i ≤ q → nth (row f q) i ≡ f i
row_at f q = numbered (λ i. nth (row f q) i ≡ f i) q (λ m l. let e : suc m - 1 ≡ m = omega arith in rw e (table_at (λ m. f (suc m)) 0 q m l))

-- ---- the window form

-- later departures, later arrivals
pub arrival_mono : (g : ℕ) (p S S' : ℕ → ℕ) (i : ℕ) → ((k : ℕ) → 1 ≤ k → k ≤ i → S k ≤ S' k) → arrival_behind g p S i ≤ arrival_behind g p S' i
unfolding arrival_behind
arrival_mono g p S S' zero h = omega arith
arrival_mono g p S S' (suc zero) h = omega (arith, h 1 (omega arith) (omega arith))
arrival_mono g p S S' (suc (suc i)) h =
    omega (arith, h (suc (suc i)) (omega arith) (omega arith), arrival_mono g p S S' (suc i) (λ k a b. h k a (omega arith)))

arrival_step : (g : ℕ) (p S : ℕ → ℕ) (i : ℕ) → 1 ≤ i → arrival_behind g p S i ≤ arrival_behind g p S (suc i)
arrival_step g p S zero l = absurd (omega arith)
arrival_step g p S (suc i) l = omega (arith, behind_by_the_gap g p S i)

module _ (w : Windows) (q : ℕ) (few : q ≤ 32) (r : WindowsInRange w q) (o : WindowsInOrder w) where
  windows_outcome : (released : ℕ → ℕ) → RunOn (windows w) q released (arrive (windows w) q (departures w released q))
  unfolding arrive
  windows_outcome released = go (departures w released q) (departures_are w o released q)
    where
      go : (d : Departed) → Earliest w o released q d → RunOn (windows w) q released (arrive (windows w) q d)
      go d (none_can f) = none_covers f
      go d (earliest_are S W len len_W these ok cov first) =
          least_run len (table_length (λ m. arrival (windows w) (nth S) (suc m)) q)
          (row_at (arrival (windows w) (nth S)) q) len_W (λ i x y. in_one_window w o (nth S i) (nth W i) (these i x y)) ok cov
          (λ S' a c i x y. (first S' a c i x y, arrival_mono w.gap w.running (nth S) S' i (λ k u v. first S' a c k u (omega arith))))

  windows_rule : RuleOf (windows w) q
  unfolding timing
  windows_rule =
      record {
        departures_rise = λ S a i k p l m. climbs S q i (λ j u v. step S a j (omega arith) v) k l m;
        arrivals_rise = λ S a i k p l m. climbs (arrival (windows w) S) q i (λ j u v. arrival_step w.gap w.running S j (omega arith)) k l m;
        departures_bounded = λ S a i p l. (early S a i p l).0;
        arrivals_bounded = λ S a i p l. omega (
          arith,
          arrival_bound w.gap w.running S 100000 10000 i (λ k u v. early S a k u (omega arith)),
          mul-le-mul r.gap.1 l,
        );
        outcome = windows_outcome;
      }
    where
      step : (S : ℕ → ℕ) → InWindows w q S → (i : ℕ) → 1 ≤ i → i < q → S i ≤ S (suc i)
      step S a i p l = let e : suc i - 1 ≡ i = omega arith in omega (arith, rw e at (a.spaced (suc i) (omega arith) l))

      -- 100000 is the last instant of a window, and 10000 the longest running time
      early : (S : ℕ → ℕ) → InWindows w q S → (i : ℕ) → 1 ≤ i → i ≤ q → (S i ≤ 100000) × (w.running i ≤ 10000)
      early S a i p l =
          let x = a.in_window i p l in
          let h = x.within in
          (omega (arith, h.not_over, (r.windows x.window h.numbered.0 h.numbered.1).to), (r.running i p l).1)

-- ---- the timetable form

module _ (t : Timetable) (q : ℕ) (r : (i : ℕ) → 1 ≤ i → i ≤ q → TimesInRange t i) (o : TimesInOrder t q) where
  timetable_outcome : (released : ℕ → ℕ) → RunOn (timetable t) q released (on_timetable t q released)
  unfolding on_timetable
  timetable_outcome released =
      go (each (λ i. leb (released i) (t.departure i)) q)
      (decides_each {P = λ i. released i ≤ t.departure i} (λ i. decides_le (released i) (t.departure i)) q)
    where
      go : (b : Bool) → Decides (Covers q released t.departure) b
          → RunOn (timetable t) q released (cond b (timed (row t.departure q) (row t.arrival q) (replicate q 0)) stopped)
      go true d =
          least_run {S = row t.departure q} {F = row t.arrival q} {W = replicate q 0}
          (table_length (λ m. t.departure (suc m)) q) (table_length (λ m. t.arrival (suc m)) q) (row_at t.arrival q)
          (length-replicate q 0) (λ i p l. get_or-replicate {A = ℕ} q (i - 1) 0 0 (omega arith))
          (record { fixed = row_at t.departure q }) (λ i p l. omega (arith, row_at t.departure q i p l, d.sound tt i p l))
          (λ S' a c i p l. (omega (arith, row_at t.departure q i p l, a.fixed i p l), omega arith))
      go false d = none_covers (λ S a c. d.complete (λ i p l. omega (arith, a.fixed i p l, c i p l)))

  timetable_rule : RuleOf (timetable t) q
  unfolding timing
  timetable_rule =
      record {
        departures_rise = λ S a i k p l m. omega (
          arith,
          a.fixed i p (omega arith),
          a.fixed k (omega arith) m,
          climbs t.departure q i (λ j u v. omega (arith, o.departures j (omega arith) (omega arith))) k l m,
        );
        arrivals_rise = λ S a i k p l m. climbs t.arrival q i (λ j u v. omega (arith, o.arrivals j (omega arith) (omega arith))) k l m;
        departures_bounded = λ S a i p l. omega (arith, a.fixed i p l, (r i p l).departure.1);
        arrivals_bounded = λ S a i p l. (r i p l).arrival.1;
        outcome = timetable_outcome;
      }

-- EITHER FORM KEEPS THE RULE
pub paths_rule : (f : Paths) (q : ℕ) → q ≤ 32 → PathsInRange f q → PathsInOrder f q → RuleOf f q
paths_rule (windows w) q few r o = windows_rule w q few r o
paths_rule (timetable t) q few r o = timetable_rule t q r o
