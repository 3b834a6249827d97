-- Departures of which the first m are replaced by earlier ones are still allowed. Assumes nothing.
use Rattle.std.specs.Prelude.{◌≡◌, ◌⊎◌, ℕ, ◌+◌, ◌-◌, ◌≤◌, ◌<◌}
use Rattle.std.proofs.Common.{sym, subst, inl, inr, arith}
use Rattle.numbers.specs.DecidesLaws.{decides_le, decided}
use Rattle.model.specs.Sheet.{Windows, Paths, windows, timetable}
use Rattle.model.specs.Schedule.{Open, InWindows, Departures}
use Rattle.model.specs.Arrival.{arrival}
use Rattle.rounds.proofs.TimingRuleLaws.{arrival_mono}

-- earlier departures, no later arrivals
pub arrives_sooner : (f : Paths) (S S' : ℕ → ℕ) (i : ℕ) → ((k : ℕ) → 1 ≤ k → k ≤ i → S k ≤ S' k) → arrival f S i ≤ arrival f S' i
arrives_sooner (windows w) S S' i h = arrival_mono w.gap w.running S S' i h
arrives_sooner (timetable t) S S' i h = omega arith

-- T is G up to train m, and S behind it
module _ (m q : ℕ) (few : m ≤ q) (G S T : ℕ → ℕ) (early : (i : ℕ) → 1 ≤ i → i ≤ m → G i ≤ S i) (first : (i : ℕ) → 1 ≤ i → i ≤ m → T i ≡ G i)
    (rest : (i : ℕ) → m < i → i ≤ q → T i ≡ S i) where
  no_later : (i : ℕ) → 1 ≤ i → i ≤ q → T i ≤ S i
  no_later i p l = go (decided (decides_le i m))
    where
      go : (i ≤ m) ⊎ (¬ (i ≤ m)) → T i ≤ S i
      go (inl u) = omega (arith, first i p u, early i p u)
      go (inr u) = omega (arith, rest i (omega arith) l)

  in_windows : (w : Windows) → InWindows w m G → InWindows w q S → InWindows w q T
  in_windows w a b =
      record {
        in_window = λ i p l. lies i p l (decided (decides_le i m));
        spaced = λ i p l. apart i p l (decided (decides_le i m));
      }
    where
      lies : (i : ℕ) → 1 ≤ i → i ≤ q → (i ≤ m) ⊎ (¬ (i ≤ m)) → Open w (T i)
      lies i p l (inl u) = subst (Open w) (sym (first i p u)) (a.in_window i p u)
      lies i p l (inr u) = subst (Open w) (sym (rest i (omega arith) l)) (b.in_window i p l)

      apart : (i : ℕ) → 1 < i → i ≤ q → (i ≤ m) ⊎ (¬ (i ≤ m)) → T (i - 1) + w.gap ≤ T i
      apart i p l (inl u) = omega (arith, first (i - 1) (omega arith) (omega arith), first i (omega arith) u, a.spaced i p u)
      apart i p l (inr u) = omega (arith, no_later (i - 1) (omega arith) (omega arith), rest i (omega arith) l, b.spaced i p l)

  pub departures_spliced : (f : Paths) → Departures f m G → Departures f q S → Departures f q T
  departures_spliced (windows w) a b = in_windows w a b
  departures_spliced (timetable t) a b = record { fixed = λ i p l. go i p l (decided (decides_le i m)) }
    where
      go : (i : ℕ) → 1 ≤ i → i ≤ q → (i ≤ m) ⊎ (¬ (i ≤ m)) → T i ≡ t.departure i
      go i p l (inl u) = omega (arith, first i p u, a.fixed i p u)
      go i p l (inr u) = omega (arith, rest i (omega arith) l, b.fixed i p l)
