-- The computed test passes exactly where there is a schedule. Assumes nothing.
use Rattle.std.specs.Prelude.{◌≡◌, List, ℕ, zero, suc, ◌+◌, ◌-◌, ◌≤◌, ◌<◌, eqb, length}
use Rattle.std.proofs.Common.{subst, arith}
use Rattle.numbers.specs.Counting.{at, nth, count}
use Rattle.numbers.specs.DecidesLaws.{Decides, decides_le, decides_eq, decides_and, decides_iff, decides_every, decides_each, decides_any}
use Rattle.model.specs.Sheet.{Windows, Paths, windows, timetable, Sheet}
use Rattle.model.specs.Limits.{◌–◌, Inside}
use Rattle.model.specs.Schedule.{Open, Departures, Schedule}
use Rattle.model.specs.ScheduleTest.{in_a_window, allowed, room, released, is_schedule}
use Rattle.model.proofs.AdmissionLaws.{decides_inside}

-- ---- the windows

decides_open : (w : Windows) (t : ℕ) → Decides (Open w t) (in_a_window w t)
decides_open w t =
    decides_iff
    (λ x. record { window = x.0; within = record { numbered = x.1; begun = x.2.0; not_over = x.2.1 } })
    (λ o. (o.window, o.within.numbered, (o.within.begun, o.within.not_over)))
    (decides_any {P = λ m. (w.from m ≤ t) × (t ≤ w.to m)} (λ m. decides_and (decides_le (w.from m) t) (decides_le t (w.to m))) w.count)

-- the gap behind train i, for trains 2 to q and for trains 1 to q − 1
behind : (w : Windows) (q : ℕ) (S : ℕ → ℕ) → ((i : ℕ) → 1 ≤ i → i ≤ q - 1 → S i + w.gap ≤ S (suc i))
    → (i : ℕ) → 1 < i → i ≤ q → S (i - 1) + w.gap ≤ S i
behind w q S f zero l k = absurd (omega arith)
behind w q S f (suc i) l k = let e : suc i - 1 ≡ i = omega arith in rw e (f i (omega arith) (omega arith))

ahead : (w : Windows) (q : ℕ) (S : ℕ → ℕ) → ((i : ℕ) → 1 < i → i ≤ q → S (i - 1) + w.gap ≤ S i)
    → (i : ℕ) → 1 ≤ i → i ≤ q - 1 → S i + w.gap ≤ S (suc i)
ahead w q S f i l k = let e : suc i - 1 ≡ i = omega arith in subst (λ (m : ℕ). S m + w.gap ≤ S (suc i)) e (f (suc i) (omega arith) (omega arith))

pub decides_allowed : (p : Paths) (q : ℕ) (S : ℕ → ℕ) → Decides (Departures p q S) (allowed p q S)
decides_allowed (windows w) q S =
    decides_iff (λ x. record { in_window = x.0; spaced = behind w q S x.1 }) (λ d. (d.in_window, ahead w q S d.spaced))
    (decides_and (decides_each {P = λ i. Open w (S i)} (λ i. decides_open w (S i)) q)
    (decides_each {P = λ i. S i + w.gap ≤ S (suc i)} (λ i. decides_le (S i + w.gap) (S (suc i))) (q - 1)))
decides_allowed (timetable t) q S =
    decides_iff (λ x. record { fixed = x }) (λ d. d.fixed) (decides_each {P = λ i. S i ≡ t.departure i} (λ i. decides_eq (S i) (t.departure i)) q)

-- ---- the whole

decides_room : (s : Sheet) (train : List ℕ)
    → Decides ((i : ℕ) → 1 ≤ i → i ≤ s.trains → count (λ j. eqb (at train j) i) s.orders ≤ s.capacity i) (room s train)
decides_room s train =
    decides_each {P = λ i. count (λ j. eqb (at train j) i) s.orders ≤ s.capacity i}
    (λ i. decides_le (count (λ j. eqb (at train j) i) s.orders) (s.capacity i)) s.trains

decides_released : (s : Sheet) (train departure : List ℕ)
    → Decides ((j : ℕ) → j < s.orders → s.release j ≤ nth departure (at train j)) (released s train departure)
decides_released s train departure =
    decides_every {P = λ j. s.release j ≤ nth departure (at train j)} (λ j. decides_le (s.release j) (nth departure (at train j))) s.orders

pub decides_schedule : (s : Sheet) (train departure : List ℕ) → Decides (Schedule s train departure) (is_schedule s train departure)
unfolding is_schedule
decides_schedule s train departure =
    decides_iff
    (λ x.
    record {
      placed = x.0.0.0.0.0;
      on_a_train = x.0.0.0.0.1;
      departs = x.0.0.0.1;
      room = x.0.0.1;
      released = x.0.1;
      departures = x.1;
    })
    (λ h. (((((h.placed, h.on_a_train), h.departs), h.room), h.released), h.departures))
    (decides_and
    (decides_and
    (decides_and
    (decides_and
    (decides_and (decides_eq (length train) s.orders)
    (decides_every {P = λ j. Inside (1 – s.trains) (at train j)} (λ j. decides_inside (1 – s.trains) (at train j)) s.orders))
    (decides_eq (length departure) s.trains))
    (decides_room s train))
    (decides_released s train departure))
    (decides_allowed s.paths s.trains (nth departure)))
