-- DOCUMENT 02, NO. 13: "a round whose z equals the gone orders' worst is the last". Nothing says so in the definitions: step 4 then lowers a gone order below
-- its own train, and step 5 finds the trains before that one crowded. Assumes nothing.
use Rattle.std.proofs.Math.Path.{◌≡◌, refl, subst, ap}
use Rattle.std.proofs.Common.{sym, ◌∙◌, inl, inr, arith}
use Rattle.std.specs.Prelude.{◌⊎◌, Bool, ℤ, ◌<ℤ◌, ◌≤ℤ◌}
use Rattle.std.proofs.Math.Bool.{true, false, cond}
use mathlib.Core.List.{List}
use Prim.Native.Nat.{ℕ, zero, suc, ◌-◌, ◌≤◌, ◌<◌}
use Rattle.std.proofs.Math.Numerals.{add-one}
use Rattle.std.specs.Int.Signed.{lt_z, clash_ℤ, ≤ℤ_refl}
use Rattle.numbers.specs.Counting.{at, nth}
use Rattle.numbers.specs.DecidesLaws.{Decides, decides_le, decides_eq, decides_ltℤ, decided, cond_yes}
use Rattle.numbers.specs.CountingLaws.{count_lt}
use Rattle.numbers.specs.SignedLaws.{≤ℤ_<ℤ_trans}
use Rattle.model.specs.Sheet.{Sheet, places}
use Rattle.model.specs.Arrival.{arrival}
use Rattle.model.specs.Lateness.{pair_of, lateness, worst}
use Rattle.model.proofs.LatenessLaws.{worst_above}
use Rattle.model.specs.Admission.{Admitted}
use Rattle.model.specs.Gone.{Gone, gone_by, WentWell, gone_lateness, GoneWorst}
use Rattle.model.proofs.GoneTestLaws.{went_among}
use Rattle.rounds.specs.Outset.{Outset}
use Rattle.rounds.specs.Timing.{Timed, stopped, timed}
use Rattle.rounds.specs.Recording.{Plan, Entry, record_entry}
use Rattle.rounds.specs.Lowering.{lower, crowded}
use Rattle.rounds.proofs.LoweringLaws.{GreatestEarly, latest_below_is, lower_at, Crowded, decides_crowded}
use Rattle.rounds.specs.Rounds.{Search, going, ended, above_everything, loading_from, times_from, settle, grade, depart}
use Rattle.rounds.specs.Rounds.{start_from, round_from, rounds_from}
use Rattle.rounds.proofs.RoundsLaws.{one_round_more}
use Rattle.rounds.proofs.GreedyLaws.{decides_carried}
use Rattle.rounds.proofs.ScheduleLaws.{below_everything}
use Rattle.rounds.proofs.InvariantLaws.{next_arrives}
use Rattle.rounds.specs.Replan.{behind}
use Rattle.rounds.proofs.GoneLaws.{First, is_left, has_left, first, all_went, aim_behind}
use Rattle.rounds.proofs.GoneRoundLaws.{now_is, begins, gone_arrive}

module _ (s : Sheet) (g : Gone) (w : WentWell s g) where
  abbrev n : ℕ
  n = s.orders

  abbrev own : ℕ → ℕ
  own = at (gone_by s g)

  -- order j has gone and is not below the limit
  module _ (latest : List ℕ) (below : (k : ℕ) → k < n → at latest k ≤ at (behind s g).latest k) (F : ℕ → ℕ) (y : ℤ) (j : ℕ) (l : j < n) (p : 1 ≤ own j)
      (late : ¬ (lateness (s.weight j) (F (own j)) (s.due j) <ℤ y)) where
    abbrev lowered : List ℕ
    lowered = lower n s.weight s.due F y latest

    lowered_is : (k : ℕ) → k < n → GreatestEarly (s.weight k) (s.due k) F y (at latest k) (at lowered k)
    lowered_is k lk =
        subst (λ (i : ℕ). GreatestEarly (s.weight k) (s.due k) F y (at latest k) i) (sym (lower_at n s.weight s.due F y latest k lk))
        (latest_below_is (s.weight k) (s.due k) F y (at latest k))

    within_own : (k : ℕ) → k < n → 1 ≤ own k → at lowered k ≤ own k
    within_own k lk pk = go (first s g k lk)
      where
        go : First s g k → at lowered k ≤ own k
        go (is_left e u) = absurd (omega arith)
        go (has_left e u) = omega (arith, (lowered_is k lk).not_above, below k lk)

    falls : at lowered j < own j
    falls = go (decided (decides_eq (at lowered j) (own j)))
      where
        go : (at lowered j ≡ own j) ⊎ (¬ (at lowered j ≡ own j)) → at lowered j < own j
        go (inl e) = absurd (late (subst (λ (i : ℕ). lateness (s.weight j) (F i) (s.due j) <ℤ y) e ((lowered_is j l).early (omega arith))))
        go (inr e) = omega (arith, within_own j l p)

    crowd : Crowded n (behind s g).capacity lowered s.trains
    crowd =
        record {
          train = own j - 1;
          among = omega (arith, went_among s g w j l, w.remains);
          more = omega (
            arith,
            all_went s g w (own j - 1) (omega (arith, went_among s g w j l)),
            count_lt (decides_carried (gone_by s g) 0 (own j - 1)) (λ k. decides_le (at lowered k) (own j - 1)) n j l (omega (arith, falls)) (λ h. omega arith)
                (λ k lk h. omega (arith, within_own k lk (omega arith))),
          );
        }

    -- steps 4 and 5 end the search
    settle_ends : (c : ℕ) (recorded : List Entry) → settle s (behind s g) c latest y recorded F ≡ ended c recorded
    unfolding settle
    settle_ends c recorded = cond_yes (decides_crowded n (behind s g).capacity lowered s.trains) crowd (ended c recorded) (going c lowered y recorded)

  -- WHILE THE SEARCH GOES ON EVERY GONE ORDER IS BELOW THE LIMIT: else steps 4 and 5 had ended it
  module _ (a : Admitted s) (enough : n ≤ places (behind s g).capacity s.trains) (j : ℕ) (l : j < n) (p : 1 ≤ own j) where
    abbrev o : Outset
    o = behind s g

    abbrev late_by : ℤ
    late_by = gone_lateness s g j

    settled_below : (c : ℕ) (latest : List ℕ) → ((k : ℕ) → k < n → at latest k ≤ at o.latest k)
        → (F : ℕ → ℕ) → F (own j) ≡ arrival s.paths (nth g.departure) (own j) → (v : ℤ) (recorded : List Entry)
        → (c₁ : ℕ) (latest₁ : List ℕ) (y₁ : ℤ) (recorded₁ : List Entry) → settle s o c latest v recorded F ≡ going c₁ latest₁ y₁ recorded₁
        → late_by <ℤ y₁
    unfolding settle
    settled_below c latest below F e v recorded c₁ latest₁ y₁ recorded₁ u = go (decided (decides_ltℤ late_by v))
      where
        on_time : late_by <ℤ v → (b : Bool)
            → cond b (ended c recorded) (going c (lower n s.weight s.due F v latest) v recorded) ≡ going c₁ latest₁ y₁ recorded₁
            → late_by <ℤ y₁
        on_time h true q = absurd (let z : ◌≡◌ {A = ℕ} 0 1 = cc in omega arith)
        on_time h false q = let same : v ≡ y₁ = cc in subst (λ (x : ℤ). late_by <ℤ x) same h

        go : (late_by <ℤ v) ⊎ (¬ (late_by <ℤ v)) → late_by <ℤ y₁
        go (inl h) = on_time h (crowded n o.capacity (lower n s.weight s.due F v latest) s.trains) u
        go (inr h) =
            let late : ¬ (lateness (s.weight j) (F (own j)) (s.due j) <ℤ v) = λ x. h (rw e at x) in
            let q : settle s o c latest v recorded F ≡ ended c recorded = settle_ends latest below F v j l p late c recorded in
            absurd (let z : ◌≡◌ {A = ℕ} 0 1 = cc in omega arith)

    gone_below : (k c : ℕ) (latest : List ℕ) (y : ℤ) (recorded : List Entry) → rounds_from s o k (start_from o) ≡ going c latest y recorded
        → late_by <ℤ above_everything → late_by <ℤ y
    unfolding rounds_from start_from round_from depart grade
    gone_below zero c latest y recorded u small = let same : above_everything ≡ y = cc in subst (λ (x : ℤ). late_by <ℤ x) same small
    gone_below (suc k) c latest y recorded u small = go (rounds_from s o k (start_from o)) refl (sym (rw add-one at (one_round_more s o k (start_from o))) ∙ u)
      where
        settled : (c₀ : ℕ) (latest₀ : List ℕ) (y₀ : ℤ) (recorded₀ : List Entry) → rounds_from s o k (start_from o) ≡ going c₀ latest₀ y₀ recorded₀
            → (S F W : List ℕ) → times_from s o (loading_from s o latest₀) ≡ timed S F W
            → (v : ℤ) (more : List Entry) → settle s o (suc c₀) latest₀ v more (nth F) ≡ going c latest y recorded → late_by <ℤ y
        settled c₀ latest₀ y₀ recorded₀ now S F W t v more =
            settled_below (suc c₀) latest₀ (now_is s g w a enough k c₀ latest₀ y₀ recorded₀ now).below (nth F)
            (gone_arrive s g w a enough k c₀ latest₀ y₀ recorded₀ now S F W t (own j) p (went_among s g w j l)) v more c latest y recorded

        graded : (c₀ : ℕ) (latest₀ : List ℕ) (y₀ : ℤ) (recorded₀ : List Entry) → rounds_from s o k (start_from o) ≡ going c₀ latest₀ y₀ recorded₀
            → (S F W : List ℕ) → times_from s o (loading_from s o latest₀) ≡ timed S F W → (b : Bool) (z : ℤ) (more : List Entry)
            → cond b (settle s o (suc c₀) latest₀ z more (nth F)) (settle s o (suc c₀) latest₀ y₀ recorded₀ (nth F))
            ≡ going c latest y recorded → late_by <ℤ y
        graded c₀ latest₀ y₀ recorded₀ now S F W t true z more = settled c₀ latest₀ y₀ recorded₀ now S F W t z more
        graded c₀ latest₀ y₀ recorded₀ now S F W t false z more = settled c₀ latest₀ y₀ recorded₀ now S F W t y₀ recorded₀

        timed_so : (c₀ : ℕ) (latest₀ : List ℕ) (y₀ : ℤ) (recorded₀ : List Entry) → rounds_from s o k (start_from o) ≡ going c₀ latest₀ y₀ recorded₀
            → (x : Timed) → times_from s o (loading_from s o latest₀) ≡ x
            → depart s o (suc c₀) latest₀ y₀ recorded₀ (loading_from s o latest₀) x ≡ going c latest y recorded → late_by <ℤ y
        timed_so c₀ latest₀ y₀ recorded₀ now stopped t v = absurd (let z : ◌≡◌ {A = ℕ} 0 1 = cc in omega arith)
        timed_so c₀ latest₀ y₀ recorded₀ now (timed S F W) t v =
            let train : List ℕ = loading_from s o latest₀ in
            let z : ℤ = worst s train (nth F) in
            let plan : Plan = record { train = train; departure = S; arrival = F; window = W } in
            graded c₀ latest₀ y₀ recorded₀ now S F W t (lt_z z y₀) z
            (record_entry recorded₀ (record { pair = record { last = nth F s.trains; worst = z }; plan = plan })) v

        go : (x : Search) → rounds_from s o k (start_from o) ≡ x → round_from s o x ≡ going c latest y recorded → late_by <ℤ y
        go (ended c₀ recorded₀) now v = absurd (let z : ◌≡◌ {A = ℕ} 0 1 = cc in omega arith)
        go (going c₀ latest₀ y₀ recorded₀) now v = timed_so c₀ latest₀ y₀ recorded₀ now (times_from s o (loading_from s o latest₀)) refl v

  module _ (a : Admitted s) (enough : n ≤ places (behind s g).capacity s.trains) (k c : ℕ) (latest : List ℕ) (y : ℤ) (recorded : List Entry)
      (now : rounds_from s (behind s g) k (start_from (behind s g)) ≡ going c latest y recorded) (S F W : List ℕ)
      (t : times_from s (behind s g) (loading_from s (behind s g) latest) ≡ timed S F W) where
    abbrev plan : Plan
    plan = record { train = loading_from s (behind s g) latest; departure = S; arrival = F; window = W }

    abbrev z : ℤ
    z = worst s plan.train (nth F)

    abbrev entry : Entry
    entry = record { pair = record { last = nth F s.trains; worst = z }; plan = plan }

    -- some schedule counts the gone order j too, so that it is below the first limit
    small : (j : ℕ) → j < n → 1 ≤ own j → gone_lateness s g j <ℤ above_everything
    small j l p =
        let h = begins s g w a enough k c latest y recorded now S F W t in
        let fixed = h.orders_fixed j l p in
        let few = went_among s g w j l in
        let e : arrival s.paths (nth S) (at plan.train j) ≡ arrival s.paths (nth g.departure) (own j) =
        ap (arrival s.paths (nth S)) fixed
        ∙ sym (next_arrives s (aim_behind s g w a enough) k c latest y recorded (now_is s g w a enough k c latest y recorded now) S F W t (own j) p
        (omega (arith, w.remains)))
        ∙ gone_arrive s g w a enough k c latest y recorded now S F W t (own j) p few in
        ≤ℤ_<ℤ_trans
        (subst (λ (v : ℕ). lateness (s.weight j) v (s.due j) ≤ℤ (pair_of s plan.train S).worst) e
        (worst_above s plan.train (arrival s.paths (nth S)) j l))
        (below_everything s a plan.train S h.schedule)

    -- A ROUND WHOSE z EQUALS THE GONE ORDERS' WORST IS THE LAST: recorded, and counted
    pub last_round : GoneWorst s g z → round_from s (behind s g) (going c latest y recorded) ≡ ended (suc c) (record_entry recorded entry)
    unfolding round_from depart grade
    last_round h =
        ap (depart s (behind s g) (suc c) latest y recorded plan.train) t ∙ go (lt_z z y) (decides_ltℤ z y)
      where
        better : z <ℤ y
        better =
            subst (λ (v : ℤ). v <ℤ y) h.late_by
            (gone_below a enough h.order h.gone.0 h.gone.1 k c latest y recorded now (small h.order h.gone.0 h.gone.1))

        e : lateness (s.weight h.order) (nth F (own h.order)) (s.due h.order) ≡ z
        e =
            ap (λ (v : ℕ). lateness (s.weight h.order) v (s.due h.order))
            (gone_arrive s g w a enough k c latest y recorded now S F W t (own h.order) h.gone.1 (went_among s g w h.order h.gone.0))
            ∙ h.late_by

        go : (b : Bool) → Decides (z <ℤ y) b
            → cond b (settle s (behind s g) (suc c) latest z (record_entry recorded entry) (nth F))
            (settle s (behind s g) (suc c) latest y recorded (nth F))
            ≡ ended (suc c) (record_entry recorded entry)
        go true d =
            settle_ends latest (now_is s g w a enough k c latest y recorded now).below (nth F) z h.order h.gone.0 h.gone.1
            (λ u. clash_ℤ u (subst (λ (v : ℤ). z ≤ℤ v) (sym e) (≤ℤ_refl z))) (suc c) (record_entry recorded entry)
        go false d = absurd (d.complete better)
