-- Schedules of an admitted sheet: their pairs are small and below the first limit. Assumes nothing.
use Rattle.std.specs.Prelude.{◌≡◌, ◌⊎◌, List, ℕ, zero, suc, ◌-◌, ◌≤◌, ◌<◌, ℤ, nat_abs, length, ◌<ℤ◌}
use Rattle.std.proofs.Common.{ap, subst, inl, inr, arith, mul-le-mul}
use Rattle.numbers.specs.Counting.{at, nth, count, greatest}
use Rattle.numbers.specs.DecidesLaws.{decides_le, decided}
use Rattle.numbers.specs.CountingLaws.{count_none}
use Rattle.numbers.specs.SignedLaws.{size_below}
use Rattle.model.specs.Sheet.{Sheet}
use Rattle.model.specs.Limits.{last_arrival}
use Rattle.model.specs.Schedule.{Schedule}
use Rattle.model.specs.Arrival.{arrival}
use Rattle.model.specs.Lateness.{Pair, pair_of, lateness, greatest_lateness, worst}
use Rattle.model.proofs.LatenessLaws.{lateness_size, worst_one}
use Rattle.model.specs.Admission.{Admitted}
use Rattle.rounds.specs.Riding.{on}
use Rattle.rounds.proofs.LoadingLaws.{decides_on}
use Rattle.rounds.specs.Timing.{Timed, timed, timing}
use Rattle.rounds.specs.Rounds.{above_everything}
use Rattle.rounds.proofs.TimingRuleLaws.{least_run, RunOn, RuleOf, paths_rule}

-- the greatest last arrival, and the greatest size of a weighted lateness
pub record SmallPair (p : Pair) : Type 0 where
  pub last : p.last ≤ last_arrival
  pub worst : nat_abs p.worst ≤ 160000000

greatest_same : (f g : ℕ → ℤ) (m : ℕ) → ((j : ℕ) → j < suc m → f j ≡ g j) → greatest f m ≡ greatest g m
unfolding greatest
greatest_same f g zero h = h 0 (omega arith)
greatest_same f g (suc m) h =
    let e : greatest f m ≡ greatest g m = greatest_same f g m (λ j l. h j (omega arith)) in
    let u : f (suc m) ≡ g (suc m) = h (suc m) (omega arith) in
    rw (e, u)

-- the worst lateness depends only on the arrivals of trains that carry an order
pub worst_same : (s : Sheet) → 1 ≤ s.orders → (train : List ℕ) (F G : ℕ → ℕ) → ((j : ℕ) → j < s.orders → F (at train j) ≡ G (at train j))
    → worst s train F ≡ worst s train G
unfolding greatest_lateness
worst_same s some_order train F G h =
    greatest_same (λ j. lateness (s.weight j) (F (at train j)) (s.due j)) (λ j. lateness (s.weight j) (G (at train j)) (s.due j)) (s.orders - 1)
    (λ j l. ap (λ (t : ℕ). lateness (s.weight j) t (s.due j)) (h j (omega arith)))

-- what the timing of the sheet's own form comes to for these releases
abbrev pub Run : Sheet → (released : ℕ → ℕ) → Timed → Type 0
Run s = RunOn s.paths s.trains

-- no train carries more than its capacity, and a train that is not on the sheet nothing
pub has_room : (s : Sheet) (train departure : List ℕ) → Schedule s train departure → (i : ℕ) → 1 ≤ i → count (on train i) s.orders ≤ s.capacity i
has_room s train departure h i p = go (decided (decides_le i s.trains))
  where
    go : (i ≤ s.trains) ⊎ (¬ (i ≤ s.trains)) → count (on train i) s.orders ≤ s.capacity i
    go (inl l) = h.room i p l
    go (inr l) = omega (arith, count_none (decides_on train i) s.orders (λ j lj e. omega (arith, (h.on_a_train j lj).1)))

module _ (s : Sheet) (a : Admitted s) where
  -- the timing rule of that form
  pub rule : RuleOf s.paths s.trains
  rule = paths_rule s.paths s.trains a.few.trains a.within_range.paths a.in_order

  -- a timing has a departure and an arrival for each train, none after the last arrival
  pub timed_within : (released : ℕ → ℕ) (S F W : List ℕ) → timing s.paths s.trains released ≡ timed S F W
      → (length S ≡ s.trains) × (length F ≡ s.trains) × ((i : ℕ) → 1 ≤ i → i ≤ s.trains → nth F i ≤ last_arrival)
  timed_within released S F W e = go S F W (subst (Run s released) e (rule.outcome released))
    where
      go : (S F W : List ℕ) → Run s released (timed S F W)
          → (length S ≡ s.trains) × (length F ≡ s.trains) × ((i : ℕ) → 1 ≤ i → i ≤ s.trains → nth F i ≤ last_arrival)
      go S F W (least_run size_S size_F arrives size_W books ok cov least) =
          (size_S, size_F, λ i p l. omega (arith, arrives i p l, rule.arrivals_bounded (nth S) ok i p l))

  module _ (train departure : List ℕ) (h : Schedule s train departure) where
    -- its numbers are small
    pub small_pair : SmallPair (pair_of s train departure)
    small_pair =
        let F = arrival s.paths (nth departure) in
        let (j, l, e) = worst_one s train F a.complete.orders in
        let bound = rule.arrivals_bounded (nth departure) h.departures in
        let order = a.within_range.orders j l in
        let late = mul-le-mul order.weight.1 (bound (at train j) (h.on_a_train j l).0 (h.on_a_train j l).1) in
        let early = mul-le-mul order.weight.1 order.due.1 in
        record {
          last = bound s.trains a.complete.trains (omega arith);
          worst = rw (← e) (lateness_size (s.weight j) (F (at train j)) (s.due j) 160000000 (omega arith) (omega arith));
        }

    -- "A LIMIT y, AT FIRST ABOVE EVERYTHING"
    pub below_everything : (pair_of s train departure).worst <ℤ above_everything
    below_everything = size_below (pair_of s train departure).worst 1000000000 (omega (arith, small_pair.worst))
