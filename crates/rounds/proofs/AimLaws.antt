-- WHAT THE THEORY OF THE ROUNDS ASKS OF AN OUTSET, and of the schedules that a search from it is among. The sheet alone keeps it, among all its schedules; and
-- so does every outset that can be set out from, among the schedules that keep to it. Assumes nothing.
use Rattle.std.specs.Prelude.{◌≡◌, ◌⊎◌, List, leb, ◌<ℤ◌}
use Rattle.std.proofs.Common.{inl, inr}
use Prim.Native.Nat.{ℕ, zero, suc, ◌≤◌, ◌<◌}
use native.Mathlib.Omega.{arith}
use Rattle.std.proofs.lemmas.List.{get_or-replicate}
use Rattle.numbers.specs.Counting.{at, nth, count}
use Rattle.numbers.specs.DecidesLaws.{decides_le, decides_lt, decided}
use Rattle.numbers.specs.CountingLaws.{count_none, count_all}
use Rattle.model.specs.Sheet.{Sheet, places}
use Rattle.model.specs.Schedule.{Departures, Schedule, Schedules}
use Rattle.model.specs.Arrival.{arrival}
use Rattle.model.specs.Lateness.{pair_of}
use Rattle.model.specs.Admission.{Admitted}
use Rattle.rounds.specs.Outset.{Outset, ordinary}
use Rattle.rounds.specs.SettingOut.{Sets}
use Rattle.rounds.specs.Recording.{Entry}
use Rattle.rounds.specs.Rounds.{Search, above_everything, start_from, rounds_from, recorded_from, search_from}
use Rattle.rounds.specs.Riding.{on}
use Rattle.rounds.specs.Timing.{awaited}
use Rattle.rounds.proofs.TimingLaws.{Covers}
use Rattle.rounds.proofs.TimingRuleLaws.{NoLater}
use Rattle.rounds.proofs.GreedyLaws.{Rides}
use Rattle.rounds.proofs.ScheduleLaws.{has_room, rule, below_everything}

-- every order of this loading rides no later than its latest train
abbrev pub Keeps : Sheet → (latest train : List ℕ) → Type 0
Keeps s latest train = (j : ℕ) → j < s.orders → at train j ≤ at latest j

-- a schedule that keeps to the outset
pub record KeepsTo (s : Sheet) (o : Outset) (train departure : List ℕ) : Type 0 where
  pub schedule : Schedule s train departure
  pub keeps : Keeps s o.latest train
  pub room : (i : ℕ) → 1 ≤ i → count (on train i) s.orders ≤ o.capacity i
  pub waits : (i : ℕ) → 1 ≤ i → i ≤ s.trains → o.since i ≤ nth departure i

-- these departures wait for all that the trains of this loading await
abbrev pub Awaits : (s : Sheet) (o : Outset) (train : List ℕ) (S : ℕ → ℕ) → Type 0
Awaits s o train = Covers s.trains (awaited o.since s.release train s.orders)

-- the plan of a round: a schedule that keeps to the outset and leaves, train by train, no later than any departures that wait for the same
pub record RoundPlan (s : Sheet) (o : Outset) (train S : List ℕ) : Type 0 where
  pub keeps_to : KeepsTo s o train S
  pub awaits : Awaits s o train (nth S)
  pub least : (S' : ℕ → ℕ) → Departures s.paths s.trains S' → Awaits s o train S' → NoLater s.trains (arrival s.paths) (nth S) S'

-- WHAT A SEARCH OF THE SHEET s AIMS AT: an outset, and the schedules among which it looks for the best. They keep to the outset, and a round's plan is one of
-- them.
pub record Aim (s : Sheet) : Type 1 where
  pub admitted : Admitted s
  pub outset : Outset
  pub sets : Sets s outset
  pub Among : Schedules
  pub keeps_to : (train departure : List ℕ) → Among train departure → KeepsTo s outset train departure
  pub made : (train S : List ℕ) → RoundPlan s outset train S → Among train S

-- ---- read off

module _ (s : Sheet) (a : Aim s) where
  -- the search after k rounds, what it has recorded, and the whole search
  abbrev pub rounds_of : (k : ℕ) → Search
  rounds_of k = rounds_from s a.outset k (start_from a.outset)

  abbrev pub recorded_of : (k : ℕ) → List Entry
  recorded_of = recorded_from s a.outset

  abbrev pub search_of : Search
  search_of = search_from s a.outset

  module _ (train departure : List ℕ) (m : a.Among train departure) where
    pub schedule_of : Schedule s train departure
    schedule_of = (a.keeps_to train departure m).schedule

    -- it rides as the key lemma asks
    pub rides : Rides s.orders s.trains a.outset.capacity s.release train (nth departure)
    rides =
        record {
          on_a_train = schedule_of.on_a_train;
          room = (a.keeps_to train departure m).room;
          released = schedule_of.released;
          rising = (rule s a.admitted).departures_rise (nth departure) schedule_of.departures;
        }

    -- and is below the first limit
    pub below_first : (pair_of s train departure).worst <ℤ above_everything
    below_first = below_everything s a.admitted train departure schedule_of

  pub places_fewer : (i : ℕ) → places a.outset.capacity i ≤ places s.capacity i
  unfolding places
  places_fewer zero = omega arith
  places_fewer (suc i) = omega (arith, places_fewer i, a.sets.fewer (suc i) (omega arith))

module _ (s : Sheet) (a : Admitted s) where
  -- ---- the sheet alone: the search is among all its schedules

  all_last : (j : ℕ) → j < s.orders → at (ordinary s).latest j ≡ s.trains
  all_last j l = get_or-replicate s.orders j s.trains 0 l

  last_fits : (i : ℕ) → i ≤ s.trains → (i < s.trains) ⊎ (¬ (i < s.trains))
      → count (λ j. leb (at (ordinary s).latest j) i) s.orders ≤ places s.capacity i
  last_fits i l (inl u) = omega (arith, count_none (λ j. decides_le (at (ordinary s).latest j) i) s.orders (λ j k w. omega (arith, all_last j k)))
  last_fits i l (inr u) =
      let e : i ≡ s.trains = omega arith in
      rw e
      (omega (arith, a.roomy, count_all (λ j. decides_le (at (ordinary s).latest j) s.trains) s.orders (λ j k. omega (arith, all_last j k))))

  pub ordinary_sets : Sets s (ordinary s)
  ordinary_sets =
      record {
        upto = λ j l. omega (arith, all_last j l);
        fits = λ i l. last_fits i l (decided (decides_lt i s.trains));
        fewer = λ i p. omega arith;
      }

  pub keeps_to_ordinary : (train departure : List ℕ) → Schedule s train departure → KeepsTo s (ordinary s) train departure
  keeps_to_ordinary train departure h =
      record {
        schedule = h;
        keeps = λ j l. omega (arith, all_last j l, (h.on_a_train j l).1);
        room = has_room s train departure h;
        waits = λ i p l. omega arith;
      }

  abbrev pub whole : Aim s
  whole =
      record {
        admitted = a;
        outset = ordinary s;
        sets = ordinary_sets;
        Among = Schedule s;
        keeps_to = keeps_to_ordinary;
        made = λ train S r. r.keeps_to.schedule;
      }

  -- ---- any outset: the search is among the schedules that keep to it

  abbrev pub set_out : (o : Outset) → Sets s o → Aim s
  set_out o h =
      record { admitted = a; outset = o; sets = h; Among = KeepsTo s o; keeps_to = λ train departure k. k; made = λ train S r. r.keeps_to }
