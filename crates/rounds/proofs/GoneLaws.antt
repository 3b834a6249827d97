-- DOCUMENT 02, NO. 13: a search from behind the gone trains is among the schedules that begin with them. Assumes nothing.
use Rattle.std.specs.Prelude.{◌≡◌, ◌⊎◌, cond, List, leb, eqb}
use Rattle.std.proofs.Common.{subst, ◌∙◌, inl, inr}
use Prim.Native.Nat.{ℕ, zero, suc, ◌+◌, ◌-◌, ◌≤◌, ◌<◌}
use native.Mathlib.Omega.{arith}
use Rattle.numbers.specs.Counting.{at, nth, count}
use Rattle.numbers.specs.DecidesLaws.{Decides, decides_le, decides_lt, decides_eq, decides_and, decided, cond_yes, cond_no}
use Rattle.numbers.specs.CountingLaws.{count_none, count_all, count_le, count_mono, count_lt, count_disj, count_union, table_at}
use Rattle.model.specs.Sheet.{Sheet, places}
use Rattle.model.specs.Schedule.{Departures}
use Rattle.model.specs.Admission.{Admitted}
use Rattle.model.specs.Gone.{Gone, gone_trains, gone_by, went, WentWell, Begins}
use Rattle.model.proofs.GoneTestLaws.{went_among}
use Rattle.rounds.specs.Outset.{Outset}
use Rattle.rounds.specs.SettingOut.{Sets}
use Rattle.rounds.specs.Riding.{on}
use Rattle.rounds.proofs.LoadingLaws.{decides_on}
use Rattle.rounds.proofs.GreedyLaws.{carried, decides_carried, carries_upto}
use Rattle.rounds.specs.Timing.{awaited}
use Rattle.rounds.proofs.TimingLaws.{awaited_least, awaited_since}
use Rattle.rounds.proofs.AimLaws.{KeepsTo, Awaits, RoundPlan, Aim}
use Rattle.rounds.proofs.SpliceLaws.{departures_spliced}
use Rattle.rounds.specs.Replan.{has_gone, behind}

-- ---- the outset, read off

pub decides_gone : (g : Gone) (i : ℕ) → Decides ((1 ≤ i) × (i ≤ gone_trains g)) (has_gone g i)
decides_gone g i = decides_and (decides_le 1 i) (decides_le i (gone_trains g))

module _ (s : Sheet) (g : Gone) where
  abbrev n : ℕ
  n = s.orders

  abbrev q : ℕ
  q = s.trains

  abbrev m : ℕ
  m = gone_trains g

  abbrev own : ℕ → ℕ
  own = at (gone_by s g)

  abbrev o : Outset
  o = behind s g

  pub capacity_gone : (i : ℕ) → 1 ≤ i → i ≤ m → o.capacity i ≡ went s g i
  capacity_gone i p l = cond_yes (decides_gone g i) (p, l) (went s g i) (s.capacity i)

  pub capacity_left : (i : ℕ) → m < i → o.capacity i ≡ s.capacity i
  capacity_left i l = cond_no (decides_gone g i) (λ h. omega arith) (went s g i) (s.capacity i)

  pub since_gone : (i : ℕ) → 1 ≤ i → i ≤ m → o.since i ≡ nth g.departure i
  since_gone i p l = cond_yes (decides_gone g i) (p, l) (nth g.departure i) g.minute

  pub since_left : (i : ℕ) → m < i → o.since i ≡ g.minute
  since_left i l = cond_no (decides_gone g i) (λ h. omega arith) (nth g.departure i) g.minute

  -- an order is left, and may ride any train; or it has gone, and keeps its own
  pub data First (j : ℕ) : Type 0 where
    is_left : own j ≡ 0 → at o.latest j ≡ q → First j
    has_left : 1 ≤ own j → at o.latest j ≡ own j → First j

  pub first : (j : ℕ) → j < n → First j
  first j l = go (decided (decides_eq (own j) 0))
    where
      here : at o.latest j ≡ cond (eqb (own j) 0) q (own j)
      here = table_at (λ j. cond (eqb (own j) 0) q (own j)) 0 n j l

      go : (own j ≡ 0) ⊎ (¬ (own j ≡ 0)) → First j
      go (inl e) = is_left e (here ∙ cond_yes (decides_eq (own j) 0) e q (own j))
      go (inr e) = has_left (omega arith) (here ∙ cond_no (decides_eq (own j) 0) e q (own j))

  module _ (w : WentWell s g) where
    among : (j : ℕ) → j < n → own j ≤ m
    among = went_among s g w

    -- ---- the gone orders fill the gone trains' places

    room_gone : (i : ℕ) → 1 ≤ i → count (on (gone_by s g) i) n ≤ o.capacity i
    room_gone i p = go (decided (decides_le i m))
      where
        go : (i ≤ m) ⊎ (¬ (i ≤ m)) → count (on (gone_by s g) i) n ≤ o.capacity i
        go (inl l) = omega (arith, capacity_gone i p l)
        go (inr l) = omega (arith, count_none (decides_on (gone_by s g) i) n (λ j lj e. omega (arith, among j lj)))

    pub all_went : (i : ℕ) → i ≤ m → places o.capacity i ≤ count (carried (gone_by s g) 0 i) n
    unfolding places
    all_went zero l = omega arith
    all_went (suc i) l =
        omega (
          arith,
          all_went i (omega arith),
          capacity_gone (suc i) (omega arith) l,
          count_disj (decides_carried (gone_by s g) 0 i) (decides_on (gone_by s g) (suc i)) (decides_carried (gone_by s g) 0 (suc i)) n
              (λ j lj h. (h.0, omega arith)) (λ j lj h. (omega arith, omega arith)) (λ j lj h k. omega arith),
        )

    pub no_more_went : (i : ℕ) → count (carried (gone_by s g) 0 i) n ≤ places o.capacity i
    unfolding places
    no_more_went i = omega (arith, carries_upto n o.capacity (gone_by s g) room_gone 0 i (omega arith))

    -- a gone train has no more places than on the sheet
    fewer : (i : ℕ) → 1 ≤ i → o.capacity i ≤ s.capacity i
    fewer i p = go (decided (decides_le i m))
      where
        go : (i ≤ m) ⊎ (¬ (i ≤ m)) → o.capacity i ≤ s.capacity i
        go (inl l) = omega (arith, capacity_gone i p l, w.room i p l)
        go (inr l) = omega (arith, capacity_left i (omega arith))

    upto : (j : ℕ) → j < n → at o.latest j ≤ q
    upto j l = go (first j l)
      where
        go : First j → at o.latest j ≤ q
        go (is_left e u) = omega arith
        go (has_left e u) = omega (arith, among j l, w.remains)

    -- step 5 sees no crowd, if the places are enough
    fits : n ≤ places o.capacity q → (i : ℕ) → i ≤ q → count (λ j. leb (at o.latest j) i) n ≤ places o.capacity i
    fits enough i l = go (decided (decides_lt i q))
      where
        bound : (j : ℕ) → i < q → First j → at o.latest j ≤ i → (0 < own j) × (own j ≤ i)
        bound j u (is_left e v) h = absurd (omega arith)
        bound j u (has_left e v) h = (omega arith, omega arith)

        go : (i < q) ⊎ (¬ (i < q)) → count (λ j. leb (at o.latest j) i) n ≤ places o.capacity i
        go (inl u) =
            omega (
              arith,
              no_more_went i,
              count_mono (λ j. decides_le (at o.latest j) i) (decides_carried (gone_by s g) 0 i) n (λ j lj h. bound j u (first j lj) h),
            )
        go (inr u) = let e : i ≡ q = omega arith in rw e (omega (arith, count_le (λ j. leb (at o.latest j) q) n))

    -- ---- in any loading that fits, the gone orders ride their own trains, and nobody else does

    module _ (train : List ℕ) (room : (i : ℕ) → 1 ≤ i → count (on train i) n ≤ o.capacity i) (loaded : (j : ℕ) → j < n → 1 ≤ at train j)
        (keeps : (j : ℕ) → j < n → at train j ≤ at o.latest j) where
      -- an order on a gone train has gone, by that train or before
      went_by : (j : ℕ) → j < n → at train j ≤ m → (0 < own j) × (own j ≤ at train j)
      unfolding places
      went_by j l u = go (decided (decides_carried (gone_by s g) 0 (at train j) j))
        where
          kept : (k : ℕ) → k < n → (0 < own k) × (own k ≤ at train j) → First k → (0 < at train k) × (at train k ≤ at train j)
          kept k lk h (is_left e v) = absurd (omega arith)
          kept k lk h (has_left e v) = (omega (arith, loaded k lk), omega (arith, keeps k lk))

          go : ((0 < own j) × (own j ≤ at train j)) ⊎ (¬ ((0 < own j) × (own j ≤ at train j))) → (0 < own j) × (own j ≤ at train j)
          go (inl h) = h
          go (inr h) =
              absurd
              (omega (
                arith,
                all_went (at train j) u,
                carries_upto n o.capacity train room 0 (at train j) (omega arith),
                count_lt (decides_carried (gone_by s g) 0 (at train j)) (decides_carried train 0 (at train j)) n j l (omega (arith, loaded j l), omega arith) h
                    (λ k lk x. kept k lk x (first k lk)),
              ))

      pub gone_ride : (j : ℕ) → j < n → 1 ≤ own j → at train j ≡ own j
      gone_ride j l p = go (first j l)
        where
          go : First j → at train j ≡ own j
          go (is_left e u) = absurd (omega arith)
          go (has_left e u) = let v : at train j ≤ own j = omega (arith, keeps j l) in omega (arith, (went_by j l (omega (arith, among j l))).1)

      pub left_ride : (j : ℕ) → j < n → own j ≡ 0 → m < at train j
      left_ride j l e = go (decided (decides_le (at train j) m))
        where
          go : (at train j ≤ m) ⊎ (¬ (at train j ≤ m)) → m < at train j
          go (inl u) = absurd (omega (arith, (went_by j l u).0))
          go (inr u) = omega arith

    -- ---- a round's plan begins with the gone trains

    module _ (train S : List ℕ) (r : RoundPlan s o train S) where
      loaded : (j : ℕ) → j < n → 1 ≤ at train j
      loaded j l = (r.keeps_to.schedule.on_a_train j l).0

      -- the same departures, but the gone trains' own
      spliced : ℕ → ℕ
      spliced i = cond (leb i m) (nth g.departure i) (nth S i)

      of_gone : (i : ℕ) → i ≤ m → spliced i ≡ nth g.departure i
      unfolding spliced
      of_gone i l = cond_yes (decides_le i m) l (nth g.departure i) (nth S i)

      of_others : (i : ℕ) → m < i → spliced i ≡ nth S i
      unfolding spliced
      of_others i l = cond_no (decides_le i m) (λ u. omega arith) (nth g.departure i) (nth S i)

      since : (i : ℕ) → 1 ≤ i → i ≤ q → o.since i ≤ nth S i
      since i p l = omega (arith, awaited_since o.since s.release train i n, r.awaits i p l)

      early : (i : ℕ) → 1 ≤ i → i ≤ m → nth g.departure i ≤ nth S i
      early i p l = omega (arith, since_gone i p l, since i p (omega (arith, w.remains)))

      allowed : Departures s.paths q spliced
      allowed =
          departures_spliced m q (omega (arith, w.remains)) (nth g.departure) (nth S) spliced early (λ i p l. of_gone i l) (λ i p l. of_others i p)
          s.paths w.departures r.keeps_to.schedule.departures

      -- they wait for all that the plan waits for: on a gone train ride its own orders
      waits : Awaits s o train spliced
      waits i p l = go (decided (decides_le i m))
        where
          went_with : (j : ℕ) → j < n → at train j ≡ i → i ≤ m → (own j ≡ 0) ⊎ (¬ (own j ≡ 0)) → s.release j ≤ nth g.departure i
          went_with j lj e u (inl z) = absurd (omega (arith, left_ride train r.keeps_to.room loaded r.keeps_to.keeps j lj z))
          went_with j lj e u (inr z) =
              let here : own j ≡ i = omega (arith, gone_ride train r.keeps_to.room loaded r.keeps_to.keeps j lj (omega arith)) in
              subst (λ (k : ℕ). s.release j ≤ nth g.departure k) here (w.released j lj (omega arith))

          go : (i ≤ m) ⊎ (¬ (i ≤ m)) → awaited o.since s.release train n i ≤ spliced i
          go (inl u) =
              rw (of_gone i u)
              (awaited_least o.since s.release train i (nth g.departure i) n (omega (arith, since_gone i p u))
              (λ j lj e. went_with j lj e u (decided (decides_eq (own j) 0))))
          go (inr u) = rw (of_others i (omega arith)) (r.awaits i p l)

      pub plan_begins : Begins s g train S
      plan_begins =
          record {
            schedule = r.keeps_to.schedule;
            orders_fixed = gone_ride train r.keeps_to.room loaded r.keeps_to.keeps;
            none_joins = left_ride train r.keeps_to.room loaded r.keeps_to.keeps;
            times_fixed = λ i p l. omega (arith, early i p l, of_gone i l, (r.least spliced allowed waits i p (omega (arith, w.remains))).0);
            minute_kept = λ i u l. omega (arith, since_left i u, since i (omega arith) l);
          }

    -- ---- a schedule that begins with the gone trains keeps to the outset

    module _ (train departure : List ℕ) (b : Begins s g train departure) where
      begun_keeps : (j : ℕ) → j < n → at train j ≤ at o.latest j
      begun_keeps j l = go (first j l)
        where
          go : First j → at train j ≤ at o.latest j
          go (is_left e u) = omega (arith, (b.schedule.on_a_train j l).1)
          go (has_left e u) = omega (arith, b.orders_fixed j l e)

      begun_room : (i : ℕ) → 1 ≤ i → count (on train i) n ≤ o.capacity i
      begun_room i p = go (decided (decides_le i m)) (decided (decides_le i q))
        where
          went_with : (j : ℕ) → j < n → at train j ≡ i → i ≤ m → (own j ≡ 0) ⊎ (¬ (own j ≡ 0)) → own j ≡ i
          went_with j lj e u (inl z) = absurd (omega (arith, b.none_joins j lj z))
          went_with j lj e u (inr z) = omega (arith, b.orders_fixed j lj (omega arith))

          go : (i ≤ m) ⊎ (¬ (i ≤ m)) → (i ≤ q) ⊎ (¬ (i ≤ q)) → count (on train i) n ≤ o.capacity i
          go (inl u) v =
              omega (
                arith,
                capacity_gone i p u,
                count_mono (decides_on train i) (decides_on (gone_by s g) i) n (λ j lj e. went_with j lj e u (decided (decides_eq (own j) 0))),
              )
          go (inr u) (inl v) = omega (arith, capacity_left i (omega arith), b.schedule.room i p v)
          go (inr u) (inr v) = omega (arith, count_none (decides_on train i) n (λ j lj e. omega (arith, (b.schedule.on_a_train j lj).1)))

      begun_waits : (i : ℕ) → 1 ≤ i → i ≤ q → o.since i ≤ nth departure i
      begun_waits i p l = go (decided (decides_le i m))
        where
          go : (i ≤ m) ⊎ (¬ (i ≤ m)) → o.since i ≤ nth departure i
          go (inl u) = omega (arith, since_gone i p u, b.times_fixed i p u)
          go (inr u) = omega (arith, since_left i (omega arith), b.minute_kept i (omega arith) l)

      pub begun_keeps_to : KeepsTo s o train departure
      begun_keeps_to = record { schedule = b.schedule; keeps = begun_keeps; room = begun_room; waits = begun_waits }

      -- so there are places for all
      pub begun_enough : n ≤ places o.capacity q
      unfolding places
      begun_enough =
          omega (
            arith,
            carries_upto n o.capacity train begun_room 0 q (omega arith),
            count_all (decides_carried train 0 q) n (λ j l. ((b.schedule.on_a_train j l).0, (b.schedule.on_a_train j l).1)),
          )

    -- the outset can be set out from, if the places are enough
    pub behind_sets : n ≤ places o.capacity q → Sets s o
    behind_sets enough = record { upto = upto; fits = fits enough; fewer = fewer }

    -- THE SEARCH FROM BEHIND THE GONE TRAINS IS AMONG THE SCHEDULES THAT BEGIN WITH THEM
    abbrev pub aim_behind : Admitted s → n ≤ places o.capacity q → Aim s
    aim_behind a enough =
        record {
          admitted = a;
          outset = o;
          sets = behind_sets enough;
          Among = Begins s g;
          keeps_to = begun_keeps_to;
          made = plan_begins;
        }

    -- ---- "the orders left outnumber the other trains' places"

    places_rest : (d : ℕ) → places o.capacity (m + d) + places s.capacity m ≡ places o.capacity m + places s.capacity (m + d)
    unfolding places
    places_rest zero = let e : m + 0 ≡ m = omega arith in rw e (omega arith)
    places_rest (suc d) =
        let e : m + suc d ≡ suc (m + d) = omega arith in rw e (omega (arith, places_rest d, capacity_left (suc (m + d)) (omega arith)))

    places_more : (d : ℕ) → places s.capacity m ≤ places s.capacity (m + d)
    unfolding places
    places_more zero = let e : m + 0 ≡ m = omega arith in rw e (omega arith)
    places_more (suc d) = let e : m + suc d ≡ suc (m + d) = omega arith in rw e (omega (arith, places_more d))

    left_or_gone : went s g 0 + count (carried (gone_by s g) 0 m) n ≡ n
    left_or_gone =
        omega (
          arith,
          count_disj (decides_on (gone_by s g) 0) (decides_carried (gone_by s g) 0 m) (λ j. decides_le (own j) m) n
              (λ j l h. omega arith) (λ j l h. h.1) (λ j l h k. omega arith),
          count_union (decides_on (gone_by s g) 0) (decides_carried (gone_by s g) 0 m) (λ j. decides_le (own j) m) n
              (λ j l h. either j h (decided (decides_eq (own j) 0))),
          count_all (λ j. decides_le (own j) m) n among,
        )
      where
        either : (j : ℕ) → own j ≤ m → (own j ≡ 0) ⊎ (¬ (own j ≡ 0)) → (own j ≡ 0) ⊎ ((0 < own j) × (own j ≤ m))
        either j l (inl e) = inl e
        either j l (inr e) = inr (omega arith, l)

    all_places : places o.capacity q + places s.capacity m ≡ count (carried (gone_by s g) 0 m) n + places s.capacity q
    all_places = let e : m + (q - m) ≡ q = omega (arith, w.remains) in omega (arith, rw e at (places_rest (q - m)), all_went m (omega arith), no_more_went m)

    pub too_few : places s.capacity q - places s.capacity m < went s g 0 → ¬ (n ≤ places o.capacity q)
    too_few h enough = omega (arith, all_places, left_or_gone)

    pub enough : ¬ (places s.capacity q - places s.capacity m < went s g 0) → n ≤ places o.capacity q
    enough h =
        let u : went s g 0 ≤ places s.capacity q - places s.capacity m = omega arith in
        let e : m + (q - m) ≡ q = omega (arith, w.remains) in
        omega (arith, all_places, left_or_gone, rw e at (places_more (q - m)))
