-- DOCUMENT 02, NO. 5: an empty train waits only for its gap and window; and where the places are as many as the orders, every train of a schedule is full.
-- Assumes nothing.
use Rattle.std.specs.Prelude.{◌≡◌, ◌↔◌, ◌⊎◌, cond, List, ℕ, ◌+◌, ◌-◌, ◌≤◌, ◌<◌, eqb}
use Rattle.std.proofs.Math.Path.{refl}
use Rattle.std.proofs.Common.{inl, inr, arith}
use Rattle.numbers.specs.Counting.{at, count}
use Rattle.numbers.specs.DecidesLaws.{decides_le, decides_eq, decided, cond_yes, cond_no, numbered}
use Rattle.model.specs.Sheet.{Windows, Paths, windows, timetable, Sheet, places}
use Rattle.model.specs.Schedule.{Open, InWindows, Departures, Schedule}
use Rattle.model.specs.Arrival.{arrival}
use Rattle.model.specs.ShortTrains.{MayLeave, LeavesAtOnce, LeavesFrom, FullSchedule}
use Rattle.rounds.specs.Riding.{on}
use Rattle.rounds.proofs.TimingLaws.{Covers}
use Rattle.rounds.proofs.TimingRuleLaws.{NoLater}
use Rattle.rounds.proofs.GreedyLaws.{filled}
use Rattle.rounds.proofs.ScheduleLaws.{has_room}

-- ---- an empty train

-- Were there an earlier instant for train i, then the other departures with this one would do as well, and they are no earlier than the least.
module _ (w : Windows) (q : ℕ) (released S : ℕ → ℕ) (ok : InWindows w q S) (cov : Covers q released S) (i t : ℕ) (p : 1 ≤ i) (l : i ≤ q)
    (nothing : released i ≤ t) (may : MayLeave w S i t) (early : t < S i) where
  sooner : ℕ → ℕ
  sooner j = cond (eqb j i) t (S j)

  data At (j : ℕ) : Type 0 where
    here : j ≡ i → sooner j ≡ t → At j
    elsewhere : ¬ (j ≡ i) → sooner j ≡ S j → At j

  at_train : (j : ℕ) → At j
  unfolding sooner
  at_train j = go (decided (decides_eq j i))
    where
      go : (j ≡ i) ⊎ (¬ (j ≡ i)) → At j
      go (inl u) = here u (cond_yes (decides_eq j i) u t (S j))
      go (inr u) = elsewhere u (cond_no (decides_eq j i) u t (S j))

  sooner_allowed : InWindows w q sooner
  sooner_allowed = record { in_window = λ j a b. opened j a b (at_train j); spaced = λ j a b. spaced j a b (at_train (j - 1)) (at_train j) }
    where
      opened : (j : ℕ) → 1 ≤ j → j ≤ q → At j → Open w (sooner j)
      opened j a b (here u e) = rw e may.in_window
      opened j a b (elsewhere u e) = rw e (ok.in_window j a b)

      spaced : (j : ℕ) → 1 < j → j ≤ q → At (j - 1) → At j → sooner (j - 1) + w.gap ≤ sooner j
      spaced j a b (here u e) (here v f) = absurd (omega arith)
      spaced j a b (here u e) (elsewhere v f) = rw (e, f) (omega (arith, rw u at (ok.spaced j a b)))
      spaced j a b (elsewhere u e) (here v f) = rw (e, f) (rw v (may.behind (omega arith)))
      spaced j a b (elsewhere u e) (elsewhere v f) = rw (e, f) (ok.spaced j a b)

  sooner_at : sooner i ≡ t
  unfolding sooner
  sooner_at = cond_yes (decides_eq i i) refl t (S i)

  sooner_covers : Covers q released sooner
  sooner_covers j a b = go (at_train j)
    where
      go : At j → released j ≤ sooner j
      go (here u e) = rw (u, sooner_at) nothing
      go (elsewhere u e) = rw e (cov j a b)

pub leaves_at_once : (f : Paths) (S : ℕ → ℕ) (i : ℕ) → LeavesFrom f S 0 i → LeavesAtOnce f S i
leaves_at_once (timetable x) S i h = h
leaves_at_once (windows w) S i h = λ t. h t (omega arith)

-- A TRAIN THAT AWAITS NO RELEASE LEAVES SO, where the departures are the least
pub leaves_from : (f : Paths) (q : ℕ) (released S : ℕ → ℕ) → Departures f q S → Covers q released S
    → ((S' : ℕ → ℕ) → Departures f q S' → Covers q released S' → NoLater q (arrival f) S S')
    → (since i : ℕ) → 1 ≤ i → i ≤ q → released i ≤ since → LeavesFrom f S since i
leaves_from (timetable x) q released S ok cov least since i p l h = ok.fixed i p l
leaves_from (windows w) q released S ok cov least since i p l h = λ t k may. go t k may (decided (decides_le (S i) t))
  where
    go : (t : ℕ) → since ≤ t → MayLeave w S i t → (S i ≤ t) ⊎ (¬ (S i ≤ t)) → S i ≤ t
    go t k may (inl u) = u
    go t k may (inr u) =
        let v : t < S i = omega arith in
        let e : released i ≤ t = omega arith in
        omega (
          arith,
          sooner_at w q released S ok cov i t p l e may v,
          (least (sooner w q released S ok cov i t p l e may v) (sooner_allowed w q released S ok cov i t p l e may v)
              (sooner_covers w q released S ok cov i t p l e may v) i p l).0,
        )

-- ---- equal sums

-- "Sheets with equal sums keep their printed plans": their schedules are those with exactly k_i orders
pub as_exactly : (s : Sheet) → places s.capacity s.trains ≡ s.orders → (train departure : List ℕ)
    → Schedule s train departure ↔ FullSchedule s train departure
as_exactly s equal train departure = (λ h. record { schedule = h; full = full h }, λ h. h.schedule)
  where
    full : Schedule s train departure → (i : ℕ) → 1 ≤ i → i ≤ s.trains → count (λ j. eqb (at train j) i) s.orders ≡ s.capacity i
    full h =
        numbered (λ i. count (on train i) s.orders ≡ s.capacity i) s.trains
        (filled s.orders s.capacity train (has_room s train departure h) (λ j l. (h.on_a_train j l).0) s.trains (λ j l. (h.on_a_train j l).1) equal)
