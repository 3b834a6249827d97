-- The invariant holds after any number of rounds, so the rounds end, within the bound. Assumes nothing.
use Rattle.std.specs.Prelude.{◌≡◌, List, [], ℤ}
use Rattle.std.proofs.Math.Path.{refl}
use Rattle.std.proofs.Common.{subst, arith, add-suc, add-zero}
use Prim.Native.Nat.{ℕ, zero, suc, ◌+◌, ◌≤◌, ◌<◌}
use Rattle.std.proofs.Math.Nat.{zero-add, suc-add}
use Rattle.numbers.specs.Counting.{at, nth}
use Rattle.numbers.specs.OneMoreLaws.{All}
use Rattle.model.specs.Sheet.{Sheet}
use Rattle.model.specs.Arrival.{arrival}
use Rattle.model.specs.Admission.{Admitted}
use Rattle.rounds.specs.Timing.{awaited, Timed, timed}
use Rattle.rounds.specs.Recording.{Entry, no_entry}
use Rattle.rounds.specs.EntryPlan.{EntryPlanAmong, EntryBooked, EntryEmptyTrains, EntryPromptAmong}
use Rattle.rounds.specs.Rounds.{Search, going, ended, above_everything, recorded_in, loading_from, times_from}
use Rattle.rounds.specs.Rounds.{start_from, round_from, rounds_from, search_from}
use Rattle.rounds.specs.RoundsBound.{rounds_bound}
use Rattle.rounds.proofs.RoundsLaws.{one_end}
use Rattle.rounds.proofs.SumLaws.{sum_le, sum_same}
use Rattle.rounds.proofs.TimingRuleLaws.{least_run}
use Rattle.rounds.proofs.ScheduleLaws.{Run, rule}
use Rattle.rounds.proofs.ShortTrainLaws.{leaves_at_once}
use Rattle.rounds.proofs.AimLaws.{Aim, whole, rounds_of, recorded_of, search_of}
use Rattle.rounds.proofs.FrontSoFarLaws.{nothing_yet}
use Rattle.rounds.proofs.OneRoundLaws.{EmptyWait, OnRecord, Going, Ended, Invariant, still, finished, bounded_now, among, round_keeps}

-- the search has ended
pub data Over (s : Sheet) (a : Aim s) : Search → Type 0 where
  at_end : {c : ℕ} {recorded : List Entry} → Ended s a c recorded → Over s a (ended c recorded)

module _ (s : Sheet) (a : Aim s) where
  pub at_start : Going s a 0 0 a.outset.latest above_everything []
  at_start =
      record {
        counted = refl;
        shrunk = omega (
          arith,
          sum_le (at a.outset.latest) (λ j. s.trains) s.orders a.sets.upto,
          sum_same (λ j. s.trains) s.trains s.orders (λ j l. refl),
        );
        below = λ j l. omega arith;
        fits = a.sets.fits;
        keeps = λ train departure h w. (a.keeps_to train departure h).keeps;
        on_record =
            record {
              front = nothing_yet refl;
              plans = λ k l. absurd (omega arith);
              booked = λ k l. absurd (omega arith);
              empty = λ k l. absurd (omega arith);
              prompt = λ k l. absurd (omega arith);
              few = omega arith;
            };
      }

  start_is : Invariant s a 0 (start_from a.outset)
  unfolding start_from
  start_is = still at_start

  one_round : (k : ℕ) (x : Search) → Invariant s a k x → Invariant s a (suc k) (round_from s a.outset x)
  unfolding round_from
  one_round k (going c latest y recorded) (still g) = round_keeps s a k c latest y recorded g
  one_round k (ended c recorded) (finished h) = finished h

  more_rounds : (m k : ℕ) (x : Search) → Invariant s a k x → Invariant s a (m + k) (rounds_from s a.outset m x)
  unfolding rounds_from
  more_rounds zero k x h = rw zero-add h
  more_rounds (suc m) k x h = rw suc-add (rw (← (add-suc m k)) (more_rounds m (suc k) (round_from s a.outset x) (one_round k x h)))

  -- THE INVARIANT HOLDS AFTER ANY NUMBER OF ROUNDS
  after : (k : ℕ) → Invariant s a k (rounds_of s a k)
  after k = simp add-zero at (more_rounds k 0 (start_from a.outset) start_is)

  on_record_after : (k : ℕ) → (y : ℤ) × (c : ℕ) × OnRecord s a y (recorded_of s a k) c
  on_record_after k = go (rounds_of s a k) (after k)
    where
      go : (x : Search) → Invariant s a k x → (y : ℤ) × (c : ℕ) × OnRecord s a y (recorded_in x) c
      go x (still {c = c} {y = y} g) = (y, c, g.on_record)
      go x (finished {c = c} h) = (h.limit, c, h.on_record)

  -- OF EACH RECORDED ENTRY, AT ANY TIME, THE PLAN IS A SCHEDULE WHOSE PAIR IT IS
  pub entry_plans : (k : ℕ) → All no_entry (EntryPlanAmong s a.Among) (recorded_of s a k)
  entry_plans k = (on_record_after k).2.plans

  -- AND THE WINDOWS ARE THOSE OF ITS DEPARTURES
  pub entry_booked : (k : ℕ) → All no_entry (EntryBooked s) (recorded_of s a k)
  entry_booked k = (on_record_after k).2.booked

  -- AND THE EMPTY TRAINS WAIT ONLY FOR GAP, WINDOW AND OUTSET
  pub entry_empty_trains : (k : ℕ) → All no_entry (EmptyWait s a) (recorded_of s a k)
  entry_empty_trains k = (on_record_after k).2.empty

  -- AND NO TRAIN IS NEEDLESSLY LATE
  pub entry_prompt : (k : ℕ) → All no_entry (EntryPromptAmong s a.Among) (recorded_of s a k)
  entry_prompt k = (on_record_after k).2.prompt

  -- ---- a search that goes on

  -- what holds of it
  pub reached : (k c : ℕ) (latest : List ℕ) (y : ℤ) (recorded : List Entry) → rounds_of s a k ≡ going c latest y recorded → Going s a k c latest y recorded
  reached k c latest y recorded e = go (subst (Invariant s a k) e (after k))
    where
      go : Invariant s a k (going c latest y recorded) → Going s a k c latest y recorded
      go (still g) = g

  -- it has made as many rounds as were asked for, and fewer than the bound
  pub below_bound : (k c : ℕ) (latest : List ℕ) (y : ℤ) (recorded : List Entry) → rounds_of s a k ≡ going c latest y recorded
      → (c ≡ k) × (k < rounds_bound s)
  below_bound k c latest y recorded e =
      let g = reached k c latest y recorded e in (g.counted, omega (arith, g.counted, bounded_now s a k c latest y recorded g))

  module _ (k c : ℕ) (latest : List ℕ) (y : ℤ) (recorded : List Entry) (g : Going s a k c latest y recorded)
      (S F W : List ℕ) (e : times_from s a.outset (loading_from s a.outset latest) ≡ timed S F W) where
    abbrev NextRun : Timed → Type 0
    NextRun = Run s (awaited a.outset.since s.release (loading_from s a.outset latest) s.orders)

    -- its next plan is one of the schedules that it is among
    pub next_schedule : a.Among (loading_from s a.outset latest) S
    next_schedule = go (subst NextRun e ((rule s a.admitted).outcome _))
      where
        go : NextRun (timed S F W) → a.Among (loading_from s a.outset latest) S
        go (least_run size_S size_F arrives size_W books ok cov least) =
            among s a k c latest y recorded g S F W size_S size_F arrives size_W books ok cov least

    -- with the model's arrivals
    pub next_arrives : (i : ℕ) → 1 ≤ i → i ≤ s.trains → nth F i ≡ arrival s.paths (nth S) i
    next_arrives = go (subst NextRun e ((rule s a.admitted).outcome _))
      where
        go : NextRun (timed S F W) → (i : ℕ) → 1 ≤ i → i ≤ s.trains → nth F i ≡ arrival s.paths (nth S) i
        go (least_run size_S size_F arrives size_W books ok cov least) = arrives

  -- ---- the end

  -- what holds of a search that has ended
  pub ended_after : (k c : ℕ) (recorded : List Entry) → rounds_of s a k ≡ ended c recorded → Ended s a c recorded
  ended_after k c recorded e = go (subst (Invariant s a k) e (after k))
    where
      go : Invariant s a k (ended c recorded) → Ended s a c recorded
      go (finished h) = h

  -- THE ROUNDS END: AFTER AS MANY AS THE BOUND NONE IS LEFT
  pub over_by : (k : ℕ) → rounds_bound s ≤ k → Over s a (rounds_of s a k)
  over_by k l = go (rounds_of s a k) (after k)
    where
      go : (x : Search) → Invariant s a k x → Over s a x
      go (going c latest y recorded) (still g) = absurd (omega (arith, g.counted, bounded_now s a k c latest y recorded g))
      go (ended c recorded) (finished h) = at_end h

  -- so the search has ended
  pub search_over : Over s a (search_of s a)
  unfolding search_from
  search_over = over_by (rounds_bound s) (omega arith)

  -- AND WHEREVER THE ROUNDS END, THAT END IS THE SEARCH
  pub search_at_end : (k c : ℕ) (recorded : List Entry) → rounds_of s a k ≡ ended c recorded → search_of s a ≡ ended c recorded
  unfolding search_from
  search_at_end k c recorded e = go (search_of s a) refl search_over
    where
      go : (x : Search) → search_of s a ≡ x → Over s a x → x ≡ ended c recorded
      go x u (at_end h) = one_end s a.outset (rounds_bound s) k _ c _ recorded (start_from a.outset) u e

-- of the sheet alone, the empty trains wait only for gap and window
pub empty_at_once : (s : Sheet) (a : Admitted s) (e : Entry) → EmptyWait s (whole s a) e → EntryEmptyTrains s e
empty_at_once s a e h = record { leave_at_once = λ i p l none. leaves_at_once s.paths (nth e.plan.departure) i (h i p l none) }
