-- A round of the code is a round of document 01: step 2 stops it, or it goes through all steps. Assumes nothing.
use Rattle.std.specs.Prelude.{◌≡◌, refl, Bool, Some, None, ℤ, take}
use Rattle.std.specs.Int.Signed.{lt_z}
use Rattle.std.proofs.Common.{sym, ap, ◌∙◌, subst, arith, get_or-take}
use Rattle.std.proofs.Math.Bool.{true, false, cond}
use mathlib.Core.List.{List}
use Prim.Native.Nat.{ℕ, suc, ◌+◌}
use Rattle.numbers.specs.Counting.{at, nth}
use Rattle.numbers.specs.DecidesLaws.{one_outcome}
use Rattle.model.specs.Sheet.{Sheet}
use Rattle.model.specs.Lateness.{worst}
use Rattle.rounds.specs.Timing.{Timed, stopped, timed}
use Rattle.rounds.specs.Recording.{Plan, Entry, record_entry, recorded_arrival}
use Rattle.rounds.proofs.RecordingLaws.{arrival_recorded}
use Rattle.rounds.specs.Lowering.{lower, crowded}
use Rattle.rounds.proofs.LoweringLaws.{lower_at, latest_below_is}
use Rattle.rounds.specs.Outset.{Outset}
use Rattle.rounds.specs.Rounds.{Search, going, ended, recorded_in, loading_from, times_from, settle, grade, depart, round_from}
use Rattle.columns.specs.Columns.{UpTo}
use Rattle.loading.proofs.BeginLaws.{orderly_next}
use Rattle.timing.specs.declared.Times.{Times}
use Rattle.search.specs.Shows.{Stands, goes_on, has_ended, BeginsFromOutset, ShowsFrom, shown_entry, recorded_by, RoundMadeFrom, MakesFrom}
use Rattle.search.specs.Parts.{Graded, SettledFrom}
use Rattle.search.specs.declared.Progress.{Progress}

-- the progress p goes on, and r is left of it: one round more, and trains that the next may begin from
module _ (s : Sheet) (o : Outset) (p r : Progress) (on : p.ended ≡ false) (counted : r.rounds ≡ p.rounds + 1) where
  abbrev made : ℕ
  made = suc p.rounds

  abbrev latest : List ℕ
  latest = take s.orders p.latest

  -- step 1
  abbrev train : List ℕ
  train = loading_from s o latest

  -- the search that p shows, where this is recorded
  abbrev shown : List Entry → Search
  shown recorded = going p.rounds latest p.limit recorded

  one_more : r.rounds ≡ made
  one_more = omega (arith, counted)

  -- what the round makes of that search
  record Next (recorded : List Entry) : Type 0 where
    search : Search
    is : round_from s o (shown recorded) ≡ search
    stands : Stands s.orders r search
    records : recorded_in search ≡ recorded_by s r recorded
    last : p.last ≡ recorded_arrival recorded → r.last ≡ recorded_arrival (recorded_by s r recorded)

  makes : BeginsFromOutset s o r → ((recorded : List Entry) → Next recorded) → MakesFrom s o p r
  makes orderly next x h = go x h.stands h
    where
      go : (x : Search) → Stands s.orders p x → ShowsFrom s o p x → RoundMadeFrom s o r x
      go x (has_ended e c) h = one_outcome e on
      go x (goes_on {recorded = recorded} e c l y) h =
          let n = next recorded in
          let shows : ShowsFrom s o r n.search =
          record { orderly = orderly; stands = n.stands; last = n.last h.last ∙ ap recorded_arrival (sym n.records) } in
          rw (← c, ← l, ← y) (record { shows = subst (ShowsFrom s o r) (sym n.is) shows; records = ap recorded_in n.is ∙ n.records })

  departs : (recorded : List Entry) (t : Timed) → times_from s o train ≡ t
      → round_from s o (shown recorded) ≡ depart s o made latest p.limit recorded train t
  unfolding round_from
  departs recorded t e = rw e

  -- STEP 2 STOPS IT
  pub round_stopped : BeginsFromOutset s o r → times_from s o train ≡ stopped → r.recorded ≡ None → r.last ≡ p.last → r.ended ≡ true → MakesFrom s o p r
  unfolding depart
  round_stopped orderly stops nothing last over =
      makes orderly (λ recorded.
      record {
        search = ended made recorded;
        is = departs recorded stopped stops;
        stands = has_ended over one_more;
        records = rw nothing;
        last = λ e. rw nothing (last ∙ e);
      })

  module _ (t : Times) where
    -- the plan that the round leaves, its arrivals and its worst lateness
    abbrev plan : Plan
    plan = (shown_entry s r t).plan

    abbrev F : ℕ → ℕ
    F = nth plan.arrival

    abbrev z : ℤ
    z = worst s plan.train F

    -- step 3
    module _ (graded : Graded p r t z (F s.trains)) (recorded : List Entry) where
      grades : grade s o made latest p.limit recorded plan ≡ settle s o made latest r.limit (recorded_by s r recorded) F
      unfolding grade
      grades = go (lt_z z p.limit) graded.0 graded.1 graded.2
        where
          go : (b : Bool) → r.recorded ≡ cond b (Some t) None → r.limit ≡ cond b z p.limit → r.last ≡ cond b (F s.trains) p.last
              → cond b (settle s o made latest z (record_entry recorded (record { pair = record { last = F s.trains; worst = z }; plan = plan })) F)
              (settle s o made latest p.limit recorded F)
              ≡ settle s o made latest r.limit (recorded_by s r recorded) F
          go true d e f = rw (d, e, f)
          go false d e f = rw (d, e)

      last_graded : p.last ≡ recorded_arrival recorded → r.last ≡ recorded_arrival (recorded_by s r recorded)
      last_graded last_is = go (lt_z z p.limit) graded.0 graded.2
        where
          go : (b : Bool) → r.recorded ≡ cond b (Some t) None → r.last ≡ cond b (F s.trains) p.last → r.last ≡ recorded_arrival (recorded_by s r recorded)
          go true d e = rw d (sym (arrival_recorded recorded (shown_entry s r t)))
          go false d e = rw d (e ∙ last_is)

    -- steps 4 and 5
    settles : SettledFrom s o p r F → (entries : List Entry) → let x = settle s o made latest r.limit entries F in
        Stands s.orders r x × (recorded_in x ≡ entries)
    unfolding settle
    settles settled entries = go (crowded s.orders o.capacity now s.trains) (rw settled.0 at settled.1)
      where
        now : List ℕ
        now = lower s.orders s.weight s.due F r.limit latest

        go : (b : Bool) → r.ended ≡ b → let x = cond b (ended made entries) (going made now r.limit entries) in
            Stands s.orders r x × (recorded_in x ≡ entries)
        go true e = (has_ended e one_more, refl)
        go false e = (goes_on e one_more settled.0 refl, refl)

    -- the next loading may begin from the trains of this one, since no latest train has risen
    next_orderly : UpTo s.trains s.orders p.latest → plan.train ≡ train
        → take s.orders r.latest ≡ lower s.orders s.weight s.due F r.limit latest → BeginsFromOutset s o r
    next_orderly low loads lowered =
        orderly_next s.orders s.trains s.release o.capacity latest r.latest r.train loads
        (λ j l. omega (arith, get_or-take s.orders p.latest j 0 l, low j l))
        (λ j l.
        omega (
          arith,
          get_or-take s.orders r.latest j 0 l,
          ap (λ (t : List ℕ). at t j) lowered,
          lower_at s.orders s.weight s.due F r.limit latest j l,
          (latest_below_is (s.weight j) (s.due j) F r.limit (at latest j)).not_above,
        ))

    -- OR IT GOES THROUGH ALL STEPS
    pub round_made : UpTo s.trains s.orders p.latest → plan.train ≡ train
        → times_from s o train ≡ timed plan.departure plan.arrival plan.window → Graded p r t z (F s.trains) → SettledFrom s o p r F → MakesFrom s o p r
    unfolding depart
    round_made low loads runs graded settled =
        makes (next_orderly low loads settled.0) (λ recorded.
        let (stands, records) = settles settled (recorded_by s r recorded) in
        record {
          search = settle s o made latest r.limit (recorded_by s r recorded) F;
          is = departs recorded _ runs ∙ rw (← loads) (grades graded recorded);
          stands = stands;
          records = records;
          last = last_graded graded recorded;
        })
