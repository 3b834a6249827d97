-- Arrivals never fall from round to round. Assumes nothing.
use Rattle.std.specs.Prelude.{◌≡◌, Bool, true, false, cond, List, ℕ, zero, suc, ◌+◌, ◌-◌, ◌≤◌, ℤ, length, ◌<ℤ◌}
use Rattle.std.proofs.Math.Path.{refl}
use Rattle.std.proofs.Common.{subst}
use native.Mathlib.Omega.{arith}
use Rattle.std.specs.Int.Signed.{lt_z}
use Rattle.numbers.specs.Counting.{nth}
use Rattle.numbers.specs.DecidesLaws.{Decides, decides_ltℤ}
use Rattle.numbers.specs.OneMoreLaws.{All, all_new}
use Rattle.model.specs.Sheet.{Sheet}
use Rattle.model.specs.Lateness.{worst}
use Rattle.rounds.specs.Timing.{Timed, stopped, timed}
use Rattle.rounds.specs.Recording.{Plan, Entry, record_entry, no_entry, last_entry, recorded_arrival}
use Rattle.rounds.proofs.RecordingLaws.{record_last, last_behind, arrival_is_behind, arrival_recorded}
use Rattle.rounds.specs.EntryPlan.{EntryPlanAmong}
use Rattle.rounds.specs.Lowering.{lower, crowded}
use Rattle.rounds.specs.Rounds.{Search, going, ended, recorded_in, start_from, loading_from, times_from, settle, grade, depart, round_from}
use Rattle.rounds.specs.Outset.{Outset}
use Rattle.rounds.proofs.RoundsLaws.{one_round_more}
use Rattle.rounds.proofs.AimLaws.{Aim, rounds_of, recorded_of}
use Rattle.rounds.proofs.FrontSoFarLaws.{Recorded, nothing_yet, so_far, belongs_to, not_before}
use Rattle.rounds.proofs.InvariantLaws.{entry_plans, reached}

-- ---- what a round records: nothing, or one entry that is below the limit y

data Records (y : ℤ) (recorded : List Entry) : List Entry → Type 0 where
  nothing_more : Records y recorded recorded
  one_below : (e : Entry) → e.pair.worst <ℤ y → Records y recorded (record_entry recorded e)

settled : (s : Sheet) (o : Outset) (c : ℕ) (latest : List ℕ) (y : ℤ) (recorded : List Entry) (F : ℕ → ℕ)
    → recorded_in (settle s o c latest y recorded F) ≡ recorded
unfolding settle
settled s o c latest y recorded F = go (crowded s.orders o.capacity lowered s.trains)
  where
    lowered : List ℕ
    lowered = lower s.orders s.weight s.due F y latest

    go : (b : Bool) → recorded_in (cond b (ended c recorded) (going c lowered y recorded)) ≡ recorded
    go true = refl
    go false = refl

graded : (s : Sheet) (o : Outset) (c : ℕ) (latest : List ℕ) (y : ℤ) (recorded : List Entry) (plan : Plan)
    → Records y recorded (recorded_in (grade s o c latest y recorded plan))
unfolding grade
graded s o c latest y recorded plan = go (lt_z z y) (decides_ltℤ z y)
  where
    F : ℕ → ℕ
    F = nth plan.arrival

    z : ℤ
    z = worst s plan.train F

    entry : Entry
    entry = record { pair = record { last = F s.trains; worst = z }; plan = plan }

    go : (b : Bool) → Decides (z <ℤ y) b
        → Records y recorded (recorded_in (cond b (settle s o c latest z (record_entry recorded entry) F) (settle s o c latest y recorded F)))
    go true d = rw (settled s o c latest z (record_entry recorded entry) F) (one_below entry (d.sound tt))
    go false d = rw (settled s o c latest y recorded F) nothing_more

round_records : (s : Sheet) (o : Outset) (c : ℕ) (latest : List ℕ) (y : ℤ) (recorded : List Entry)
    → Records y recorded (recorded_in (round_from s o (going c latest y recorded)))
unfolding round_from depart
round_records s o c latest y recorded = go (times_from s o (loading_from s o latest))
  where
    go : (t : Timed) → Records y recorded (recorded_in (depart s o (suc c) latest y recorded (loading_from s o latest) t))
    go stopped = nothing_more
    go (timed S F W) = graded s o (suc c) latest y recorded (record { train = loading_from s o latest; departure = S; arrival = F; window = W })

-- ---- of an admitted sheet that entry is not earlier than the one recorded last, and less late

-- less late than the entry recorded last, if there is one
abbrev pub LessLate : List Entry → Entry → Type 0
LessLate recorded e = 1 ≤ length recorded → e.pair.worst <ℤ (last_entry recorded).pair.worst

pub data Next (recorded : List Entry) : List Entry → Type 0 where
  no_more : Next recorded recorded
  one_more : (e : Entry) → recorded_arrival recorded ≤ e.pair.last → LessLate recorded e → Next recorded (record_entry recorded e)

module _ (s : Sheet) (a : Aim s) where
  not_earlier : (y : ℤ) (recorded : List Entry) → Recorded s a y recorded → (e : Entry) → EntryPlanAmong s a.Among e → e.pair.worst <ℤ y
      → recorded_arrival recorded ≤ e.pair.last
  unfolding last_entry
  not_earlier y recorded (nothing_yet limit) e h better = omega arith
  not_earlier y recorded (so_far before e₀ limit H) e h better =
      rw (arrival_is_behind before e₀)
      (not_before s a e₀.pair H.ahead e.pair (belongs_to s a e h)
      (subst (λ (v : ℤ). e.pair.worst <ℤ v) limit better))

  less_late : (y : ℤ) (recorded : List Entry) → Recorded s a y recorded → (e : Entry) → e.pair.worst <ℤ y → LessLate recorded e
  less_late y recorded (nothing_yet limit) e better some = absurd (omega arith)
  less_late y recorded (so_far before e₀ limit H) e better some = rw (last_behind before e₀, ← limit) better

  next_is : (y : ℤ) (recorded after : List Entry) → Recorded s a y recorded → All no_entry (EntryPlanAmong s a.Among) after → Records y recorded after
      → Next recorded after
  next_is y recorded after r plans nothing_more = no_more
  next_is y recorded after r plans (one_below e better) =
      let (before, u) = record_last recorded e in
      one_more e (not_earlier y recorded r e (all_new no_entry before e (EntryPlanAmong s a.Among) (rw u at plans)) better) (less_late y recorded r e better)

  pub next_recorded : (k : ℕ) → Next (recorded_of s a k) (recorded_of s a (k + 1))
  unfolding round_from
  next_recorded k = rw one_more_round (go (rounds_of s a k) refl (rw one_more_round at (entry_plans s a (k + 1))))
    where
      one_more_round : rounds_of s a (k + 1) ≡ round_from s a.outset (rounds_of s a k)
      one_more_round = one_round_more s a.outset k (start_from a.outset)

      go : (x : Search) → rounds_of s a k ≡ x → All no_entry (EntryPlanAmong s a.Among) (recorded_in (round_from s a.outset x))
          → Next (recorded_in x) (recorded_in (round_from s a.outset x))
      go (ended c recorded) u plans = no_more
      go (going c latest y recorded) u plans =
          next_is y recorded _ (reached s a k c latest y recorded u).on_record.front plans (round_records s a.outset c latest y recorded)

  -- ARRIVALS NEVER FALL
  pub arrivals_never_fall : (k : ℕ) → recorded_arrival (recorded_of s a k) ≤ recorded_arrival (recorded_of s a (k + 1))
  arrivals_never_fall k = go _ _ (next_recorded k)
    where
      go : (recorded after : List Entry) → Next recorded after → recorded_arrival recorded ≤ recorded_arrival after
      go recorded after no_more = omega arith
      go recorded after (one_more e l m) = rw (arrival_recorded recorded e) l

  -- nor over several rounds
  pub arrivals_in_order : (k m : ℕ) → k ≤ m → recorded_arrival (recorded_of s a k) ≤ recorded_arrival (recorded_of s a m)
  arrivals_in_order k m l = let e : k + (m - k) ≡ m = omega arith in rw e at (go (m - k))
    where
      go : (j : ℕ) → recorded_arrival (recorded_of s a k) ≤ recorded_arrival (recorded_of s a (k + j))
      go zero = let e : k + 0 ≡ k = omega arith in rw e (omega arith)
      go (suc j) = let e : k + suc j ≡ k + j + 1 = omega arith in rw e (omega (arith, go j, arrivals_never_fall (k + j)))
