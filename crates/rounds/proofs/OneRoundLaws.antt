-- One round keeps what holds of the search: every schedule below the limit keeps to the latest trains, and what is recorded is the front of the
-- others. Assumes nothing.
use Rattle.std.specs.Prelude.{◌≡◌, refl, ◌⊎◌, Bool, cond, List, leb, ℤ, length, ◌≤ℤ◌, ◌<ℤ◌}
use Rattle.std.proofs.Common.{sym, ap, subst, inl, inr}
use Rattle.std.proofs.Math.Bool.{true, false}
use Prim.Native.Nat.{ℕ, suc, ◌+◌, ◌*◌, ◌≤◌, ◌<◌}
use native.Mathlib.Omega.{arith}
use Rattle.std.specs.Int.Signed.{lt_z, ≤ℤ_refl, <ℤ-≤ℤ_trans, clash_ℤ}
use Rattle.numbers.specs.Counting.{at, nth, count, sum}
use Rattle.numbers.specs.DecidesLaws.{Decides, decides_le, decides_ltℤ, decided}
use Rattle.numbers.specs.OneMoreLaws.{All}
use Rattle.numbers.specs.SignedLaws.{≤ℤ_trans, <ℤ_weaken, ≮ℤ_≤ℤ, ≤ℤ_<ℤ_trans}
use Rattle.model.specs.Sheet.{Sheet, places}
use Rattle.model.specs.Schedule.{Schedule, Departures}
use Rattle.model.specs.Arrival.{arrival}
use Rattle.model.specs.Booking.{BookedBy}
use Rattle.model.specs.Lateness.{Pair, pair_of, lateness, worst}
use Rattle.model.proofs.LatenessLaws.{lateness_rises, worst_above, worst_one}
use Rattle.model.specs.ShortTrains.{Empty, LeavesFrom}
use Rattle.rounds.specs.Timing.{awaited, Timed}
use Rattle.rounds.proofs.TimingLaws.{awaited_above, awaited_least, awaited_since, Covers}
use Rattle.rounds.specs.Recording.{Plan, Entry, record_entry, no_entry}
use Rattle.rounds.proofs.RecordingLaws.{record_all, record_lengthens}
use Rattle.rounds.specs.EntryPlan.{EntryPlanAmong, EntryBooked, EntryPromptAmong}
use Rattle.rounds.specs.Outset.{Outset}
use Rattle.rounds.specs.Lowering.{lower, crowded}
use Rattle.rounds.proofs.LoweringLaws.{GreatestEarly, latest_below_is, lower_at, Crowded, decides_crowded, not_crowded}
use Rattle.rounds.specs.Rounds.{Search, going, ended, loading_from, times_from, settle, grade, depart, round_from}
use Rattle.rounds.specs.RoundsBound.{rounds_bound}
use Rattle.rounds.proofs.SumLaws.{sum_lt, sum_near}
use Rattle.rounds.proofs.GreedyLaws.{Greedy, uncrowded, released_in_any, every_loaded}
use Rattle.rounds.proofs.SettledLaws.{load_length, load_greedy}
use Rattle.rounds.proofs.TimingRuleLaws.{NoLater, none_covers, least_run}
use Rattle.rounds.proofs.ScheduleLaws.{worst_same, Run, rule}
use Rattle.rounds.proofs.ShortTrainLaws.{leaves_from}
use Rattle.rounds.proofs.AimLaws.{Keeps, KeepsTo, Aim, schedule_of, rides, places_fewer}
use Rattle.rounds.proofs.FrontSoFarLaws.{Recorded, recording}

module _ (s : Sheet) (a : Aim s) where
  -- the empty trains of an entry's plan wait only for gap, window and outset
  abbrev pub EmptyWait : Entry → Type 0
  EmptyWait e =
      (i : ℕ) → 1 ≤ i → i ≤ s.trains → Empty s e.plan.train i → LeavesFrom s.paths (nth e.plan.departure) (a.outset.since i) i

  -- what is recorded where the limit is y: the front so far, each entry with its plan, that with its windows, with empty trains that leave at once
  -- and with no train needlessly late, and no more entries than rounds
  pub record OnRecord (y : ℤ) (recorded : List Entry) (c : ℕ) : Type 0 where
    pub front : Recorded s a y recorded
    pub plans : All no_entry (EntryPlanAmong s a.Among) recorded
    pub booked : All no_entry (EntryBooked s) recorded
    pub empty : All no_entry EmptyWait recorded
    pub prompt : All no_entry (EntryPromptAmong s a.Among) recorded
    pub few : length recorded ≤ c

  -- the search goes on after k rounds
  pub record Going (k c : ℕ) (latest : List ℕ) (y : ℤ) (recorded : List Entry) : Type 0 where
    pub counted : c ≡ k
    -- each round has lowered the sum of the latest trains
    pub shrunk : c + sum (at latest) s.orders ≤ s.orders * s.trains
    -- none is above the outset's
    pub below : (j : ℕ) → j < s.orders → at latest j ≤ at a.outset.latest j
    -- step 5 sees no crowd
    pub fits : (i : ℕ) → i ≤ s.trains → count (λ j. leb (at latest j) i) s.orders ≤ places a.outset.capacity i
    -- a schedule below the limit keeps to the latest trains
    pub keeps : (train departure : List ℕ) → a.Among train departure → (pair_of s train departure).worst <ℤ y → Keeps s latest train
    pub on_record : OnRecord y recorded c

  pub upto : {k c : ℕ} {latest : List ℕ} {y : ℤ} {recorded : List Entry} → Going k c latest y recorded → (j : ℕ) → j < s.orders → at latest j ≤ s.trains
  upto g j l = omega (arith, g.below j l, a.sets.upto j l)

  -- the search has ended: no schedule is below the limit it ended at
  pub record Ended (c : ℕ) (recorded : List Entry) : Type 0 where
    pub limit : ℤ
    pub bounded : c ≤ rounds_bound s
    pub none_below : (train departure : List ℕ) → a.Among train departure → ¬ ((pair_of s train departure).worst <ℤ limit)
    pub on_record : OnRecord limit recorded c

  pub data Invariant (k : ℕ) : Search → Type 0 where
    still : {c : ℕ} {latest : List ℕ} {y : ℤ} {recorded : List Entry} → Going k c latest y recorded → Invariant k (going c latest y recorded)
    finished : {c : ℕ} {recorded : List Entry} → Ended c recorded → Invariant k (ended c recorded)

-- the loading of these latest trains
module _ (s : Sheet) (o : Outset) (latest : List ℕ) (upto : (j : ℕ) → j < s.orders → at latest j ≤ s.trains) where
  loads_greedily : Greedy s.orders o.capacity s.release latest (loading_from s o latest)
  loads_greedily = load_greedy s.orders s.trains s.release o.capacity latest upto

  -- it puts every order on a train, where step 5 sees no crowd
  pub every_order_loaded : ((i : ℕ) → i ≤ s.trains → count (λ j. leb (at latest j) i) s.orders ≤ places o.capacity i)
      → (j : ℕ) → j < s.orders → (1 ≤ at (loading_from s o latest) j) × (at (loading_from s o latest) j ≤ s.trains)
  every_order_loaded fits j l = (
    every_loaded s.orders s.trains o.capacity s.release latest (loading_from s o latest) loads_greedily upto fits j l,
    omega (arith, loads_greedily.keeps j l, upto j l),
  )

module _ (s : Sheet) (a : Aim s) (k c : ℕ) (latest : List ℕ) (y : ℤ) (recorded : List Entry) (g : Going s a k c latest y recorded) where
  abbrev o : Outset
  o = a.outset

  abbrev n : ℕ
  n = s.orders

  abbrev q : ℕ
  q = s.trains

  -- ---- steps 1 and 2

  abbrev train : List ℕ
  train = loading_from s o latest

  abbrev released : ℕ → ℕ
  released = awaited o.since s.release train n

  -- the latest trains are trains
  low : (j : ℕ) → j < n → at latest j ≤ q
  low = upto s a g

  pub greedy : Greedy n o.capacity s.release latest train
  greedy = loads_greedily s o latest low

  -- every order is loaded
  pub loaded : (j : ℕ) → j < n → (1 ≤ at train j) × (at train j ≤ q)
  loaded = every_order_loaded s o latest low g.fits

  pub all_loaded : (j : ℕ) → j < n → 1 ≤ at train j
  all_loaded j l = (loaded j l).0

  within : (j : ℕ) → j < n → at train j ≤ q
  within j l = (loaded j l).1

  -- any of the schedules that keeps to the latest trains waits for all that this loading awaits
  covered : (other departure : List ℕ) → a.Among other departure → Keeps s latest other → Covers q released (nth departure)
  covered other departure h keeps i p l =
      awaited_least o.since s.release train i (nth departure i) n ((a.keeps_to other departure h).waits i p l)
      (λ j lj e. subst (λ (m : ℕ). s.release j ≤ nth departure m) e
      (released_in_any n q o.capacity s.release latest train greedy low other (nth departure) (rides s a other departure h) keeps j lj
      (all_loaded j lj)))

  -- this round is within the bound
  pub bounded_now : suc c ≤ rounds_bound s
  bounded_now =
      omega (
        arith,
        g.shrunk,
        sum_near s a.admitted.complete.trains (at latest) low (λ i l. omega (arith, g.fits i l, places_fewer s a i)),
      )

  one_round_later : OnRecord s a y recorded c → OnRecord s a y recorded (suc c)
  one_round_later r = record { front = r.front; plans = r.plans; booked = r.booked; empty = r.empty; prompt = r.prompt; few = omega (arith, r.few) }

  -- "If there is none, stop."
  stops : ((S : ℕ → ℕ) → Departures s.paths q S → ¬ Covers q released S) → Ended s a (suc c) recorded
  stops f =
      record {
        limit = y;
        bounded = bounded_now;
        none_below = λ other departure h l. f (nth departure) (schedule_of s a other departure h).departures
            (covered other departure h (g.keeps other departure h l));
        on_record = one_round_later g.on_record;
      }

  -- ---- steps 3 to 5, with the times known

  module _ (S F W : List ℕ) (size_S : length S ≡ q) (size_F : length F ≡ q) (arrives : (i : ℕ) → 1 ≤ i → i ≤ q → nth F i ≡ arrival s.paths (nth S) i)
      (size_W : length W ≡ q) (books : (i : ℕ) → 1 ≤ i → i ≤ q → BookedBy s.paths (nth S i) (nth W i))
      (ok : Departures s.paths q (nth S)) (cov : Covers q released (nth S))
      (least : (S' : ℕ → ℕ) → Departures s.paths q S' → Covers q released S' → NoLater q (arrival s.paths) (nth S) S') where
    abbrev z : ℤ
    z = worst s train (nth F)

    abbrev plan : Plan
    plan = record { train = train; departure = S; arrival = F; window = W }

    abbrev entry : Entry
    entry = record { pair = record { last = nth F q; worst = z }; plan = plan }

    -- this round's plan is a schedule
    schedule : Schedule s train S
    schedule =
        record {
          placed = load_length n q s.release o.capacity latest;
          on_a_train = loaded;
          departs = size_S;
          room = λ i p l. omega (arith, greedy.room i p, a.sets.fewer i p);
          released = λ j l. omega (arith, awaited_above o.since s.release train (at train j) n j l refl, cov (at train j) (all_loaded j l) (within j l));
          departures = ok;
        }

    -- that keeps to the outset
    keeps_to : KeepsTo s o train S
    keeps_to =
        record {
          schedule = schedule;
          keeps = λ j l. omega (arith, greedy.keeps j l, g.below j l);
          room = greedy.room;
          waits = λ i p l. omega (arith, awaited_since o.since s.release train i n, cov i p l);
        }

    -- and one of those that the search is among
    pub among : a.Among train S
    among = a.made train S (record { keeps_to = keeps_to; awaits = cov; least = least })

    -- and its pair is what step 3 records
    pair_is : pair_of s train S ≡ entry.pair
    pair_is =
        let last_is : arrival s.paths (nth S) q ≡ nth F q = sym (arrives q a.admitted.complete.trains (omega arith)) in
        let worst_is : worst s train (arrival s.paths (nth S)) ≡ z =
        worst_same s a.admitted.complete.orders train (arrival s.paths (nth S)) (nth F)
        (λ j l. sym (arrives (at train j) (all_loaded j l) (within j l))) in
        λ i. record { last = last_is i; worst = worst_is i }

    entry_plan : EntryPlanAmong s a.Among entry
    entry_plan = record { schedule = among; arrives = size_F; arrivals = arrives; pair = pair_is }

    -- a train that carries nothing awaits no release
    empty_trains : EmptyWait s a entry
    empty_trains i p l none =
        leaves_from s.paths q released (nth S) ok cov least (o.since i) i p l
        (awaited_least o.since s.release train i (o.since i) n (omega arith) (λ j lj e. absurd (none j lj e)))

    -- no schedule below the limit departs or arrives earlier, by any train
    no_earlier : (other departure : List ℕ) → a.Among other departure → (pair_of s other departure).worst <ℤ y
        → NoLater q (arrival s.paths) (nth S) (nth departure)
    no_earlier other departure h l =
        least (nth departure) (schedule_of s a other departure h).departures (covered other departure h (g.keeps other departure h l))

    sooner : (other departure : List ℕ) → a.Among other departure → (pair_of s other departure).worst <ℤ y
        → (i : ℕ) → 1 ≤ i → i ≤ q → nth F i ≤ arrival s.paths (nth departure) i
    sooner other departure h l i p m = omega (arith, arrives i p m, no_earlier other departure h l i p m)

    -- where step 3 records the plan, then, no train of it is needlessly late
    prompt : z <ℤ y → EntryPromptAmong s a.Among entry
    prompt better other departure h l i p m =
        let own : (pair_of s train S).worst <ℤ y = rw (ap (λ (v : Pair). v.worst) pair_is) better in
        let w = no_earlier other departure h (≤ℤ_<ℤ_trans l own) i p m in
        record { leaves = omega (arith, w); arrives = omega (arith, w) }

    -- steps 4 and 5, at the limit v
    module _ (v : ℤ) (v_y : v ≤ℤ y) (v_z : v ≤ℤ z) (recorded' : List Entry) (on_record' : OnRecord s a v recorded' (suc c)) where
      abbrev lowered : List ℕ
      lowered = lower n s.weight s.due (nth F) v latest

      lowered_is : (j : ℕ) → j < n → GreatestEarly (s.weight j) (s.due j) (nth F) v (at latest j) (at lowered j)
      lowered_is j l =
          subst (λ (i : ℕ). GreatestEarly (s.weight j) (s.due j) (nth F) v (at latest j) i) (sym (lower_at n s.weight s.due (nth F) v latest j l))
          (latest_below_is (s.weight j) (s.due j) (nth F) v (at latest j))

      -- a schedule below v still keeps to the lowered latest trains
      keeps' : (other departure : List ℕ) → a.Among other departure → (pair_of s other departure).worst <ℤ v → Keeps s lowered other
      keeps' other departure h l j lj =
          let y_l : (pair_of s other departure).worst <ℤ y = <ℤ-≤ℤ_trans l v_y in
          let (p, m) = (schedule_of s a other departure h).on_a_train j lj in
          (lowered_is j lj).greatest (at other j) p (g.keeps other departure h y_l j lj)
          (≤ℤ_<ℤ_trans
          (≤ℤ_trans
          (lateness_rises (s.weight j) (s.due j) (nth F (at other j)) (arrival s.paths (nth departure) (at other j))
          (sooner other departure h y_l (at other j) p m))
          (worst_above s other (arrival s.paths (nth departure)) j lj))
          l)

      -- the worst order's latest train falls below the train that it rides
      worst_lowered : (j : ℕ) → j < n → lateness (s.weight j) (nth F (at train j)) (s.due j) ≡ z → at lowered j < at train j
      worst_lowered j l e = go (decided (decides_le (at train j) (at lowered j)))
        where
          go : (at train j ≤ at lowered j) ⊎ (¬ (at train j ≤ at lowered j)) → at lowered j < at train j
          go (inl u) =
              let p : 1 ≤ at lowered j = omega (arith, all_loaded j l) in
              let m : at lowered j ≤ q = omega (arith, (lowered_is j l).not_above, low j l) in
              let r : nth F (at train j) ≤ nth F (at lowered j) =
              omega (
                arith,
                arrives (at train j) (all_loaded j l) (within j l),
                arrives (at lowered j) p m,
                (rule s a.admitted).arrivals_rise (nth S) ok (at train j) (at lowered j) (all_loaded j l) u m,
              ) in
              clash_ℤ (<ℤ-≤ℤ_trans ((lowered_is j l).early p) v_z)
              (subst (λ (x : ℤ). x ≤ℤ lateness (s.weight j) (nth F (at lowered j)) (s.due j)) e
              (lateness_rises (s.weight j) (s.due j) (nth F (at train j)) (nth F (at lowered j)) r))
          go (inr u) = omega arith

      -- so a round that goes on lowers the sum of latest trains
      shrinks : sum (at lowered) n < sum (at latest) n
      shrinks =
          let (j, l, e) = worst_one s train (nth F) a.admitted.complete.orders in
          sum_lt (at lowered) (at latest) n j l (omega (arith, worst_lowered j l e, greedy.keeps j l)) (λ i li. (lowered_is i li).not_above)

      settles : Invariant s a (suc k) (settle s o (suc c) latest v recorded' (nth F))
      unfolding settle
      settles = go (crowded n o.capacity lowered q) (decides_crowded n o.capacity lowered q)
        where
          go : (b : Bool) → Decides (Crowded n o.capacity lowered q) b
              → Invariant s a (suc k) (cond b (ended (suc c) recorded') (going (suc c) lowered v recorded'))
          go true d =
              finished
              record {
                limit = v;
                bounded = bounded_now;
                none_below = λ other departure h l. omega (
                  arith,
                  (d.sound tt).more,
                  uncrowded n o.capacity other (a.keeps_to other departure h).room (λ j lj. ((schedule_of s a other departure h).on_a_train j lj).0) lowered
                      (keeps' other departure h l) (d.sound tt).train,
                );
                on_record = on_record';
              }
          go false d =
              still {c = suc c} {latest = lowered} {y = v} {recorded = recorded'}
              record {
                counted = omega (arith, g.counted);
                shrunk = omega (arith, g.shrunk, shrinks);
                below = λ j l. omega (arith, (lowered_is j l).not_above, g.below j l);
                fits = not_crowded n o.capacity lowered q d.complete;
                keeps = keeps';
                on_record = on_record';
              }

    -- step 3 records it
    records : z <ℤ y → OnRecord s a z (record_entry recorded entry) (suc c)
    records better =
        record {
          front = recording s a y entry (train, S, among, pair_is) better
              (λ other departure h l. sooner other departure h l q a.admitted.complete.trains (omega arith)) recorded g.on_record.front;
          plans = record_all (EntryPlanAmong s a.Among) recorded entry g.on_record.plans entry_plan;
          booked = record_all (EntryBooked s) recorded entry g.on_record.booked (record { each_train = size_W; by_window = books });
          empty = record_all (EmptyWait s a) recorded entry g.on_record.empty empty_trains;
          prompt = record_all (EntryPromptAmong s a.Among) recorded entry g.on_record.prompt (prompt better);
          few = omega (arith, g.on_record.few, (record_lengthens recorded entry).one_more);
        }

    graded : Invariant s a (suc k) (grade s o (suc c) latest y recorded plan)
    unfolding grade
    graded = go (lt_z z y) (decides_ltℤ z y)
      where
        go : (b : Bool) → Decides (z <ℤ y) b
            → Invariant s a (suc k)
            (cond b (settle s o (suc c) latest z (record_entry recorded entry) (nth F)) (settle s o (suc c) latest y recorded (nth F)))
        go true d = let better : z <ℤ y = d.sound tt in settles z (<ℤ_weaken better) (≤ℤ_refl z) (record_entry recorded entry) (records better)
        go false d = settles y (≤ℤ_refl y) (≮ℤ_≤ℤ (λ l. d.complete l)) recorded (one_round_later g.on_record)

  -- A ROUND KEEPS THE INVARIANT
  pub round_keeps : Invariant s a (suc k) (round_from s o (going c latest y recorded))
  unfolding round_from depart
  round_keeps = go (times_from s o train) ((rule s a.admitted).outcome released)
    where
      go : (t : Timed) → Run s released t → Invariant s a (suc k) (depart s o (suc c) latest y recorded train t)
      go t (none_covers f) = finished (stops f)
      go t (least_run {S = S} {F = F} {W = W} size_S size_F arrives size_W books ok cov least) =
          graded S F W size_S size_F arrives size_W books ok cov least
