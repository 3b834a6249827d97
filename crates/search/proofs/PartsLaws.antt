-- What holds where a round is begun, and what its parts ask of columns. Assumes nothing.
use Rattle.std.specs.Prelude.{◌≡◌, refl, Bool, true, false, not, ◌&&◌, Some, None, List, ℕ, ℤ, suc, ◌-◌, ◌<◌, ltb, take}
use Rattle.std.proofs.Common.{sym, ap, ◌∙◌, arith, get_or-take}
use Rattle.std.specs.Int.Signed.{lt_z}
use Rattle.numbers.specs.Counting.{at}
use Rattle.numbers.specs.DecidesLaws.{Decides, decides_lt, decides_and, decides_not, decides_iff, test_false, test_fails, one_outcome}
use Rattle.model.specs.Sheet.{Sheet}
use Rattle.model.specs.Limits.{most_pairs, last_arrival}
use Rattle.model.specs.Memory.{sheet_of}
use Rattle.model.specs.Admission.{Admitted}
use Rattle.model.specs.declared.Sheet as memory
use Rattle.rounds.specs.Timing.{awaited, timed}
use Rattle.rounds.specs.Lowering.{crowded}
use Rattle.rounds.specs.Outset.{Outset, ordinary}
use Rattle.rounds.specs.RoundsBound.{rounds_bound}
use Rattle.rounds.specs.Rounds.{Search, loading_from, times_from}
use Rattle.rounds.proofs.LoweringLaws.{decides_crowded, not_crowded}
use Rattle.rounds.proofs.ScheduleLaws.{timed_within}
use Rattle.rounds.proofs.AimLaws.{Aim, whole, rounds_of}
use Rattle.rounds.proofs.OneRoundLaws.{Going, every_order_loaded, upto}
use Rattle.rounds.proofs.InvariantLaws.{reached, below_bound}
use Rattle.rounds.proofs.BoundLaws.{bound_most}
use Rattle.columns.specs.Columns.{UpTo, Loaded}
use Rattle.timing.specs.declared.Times.{Times}
use Rattle.lowering.specs.Ranged.{ArrivesTo}
use Rattle.search.specs.Shows.{Stands, goes_on, has_ended, BeginsFromOutset, ReachedFrom, Reached}
use Rattle.search.specs.Parts.{BegunFrom, Begun, Graded}
use Rattle.search.specs.declared.Progress.{Progress}

-- where a search goes on a round can be made
pub begun_from : (s : Sheet) (a : Aim s) (p : Progress) → ReachedFrom s a.outset p → p.ended ≡ false → BegunFrom s a.outset p
begun_from s a p R on = go (rounds_of s a R.made) refl R.shows.stands
  where
    go : (x : Search) → rounds_of s a R.made ≡ x → Stands s.orders p x → BegunFrom s a.outset p
    go x e (has_ended f c) = one_outcome f on
    go x e (goes_on {c = c} {latest = latest} {y = y} {recorded = recorded} f made l v) =
        let g : Going s a R.made c latest y recorded = reached s a R.made c latest y recorded e in
        record {
          orderly = R.shows.orderly;
          latest = λ j u. rw (ap (λ (m : List ℕ). at m j) (sym l) ∙ get_or-take s.orders p.latest j 0 u) at (upto s a g j u);
          uncrowded = rw l (test_false (decides_crowded s.orders a.outset.capacity latest s.trains)
              (λ x. omega (arith, x.more, g.fits x.train x.among)));
          within = let (counted, below) = below_bound s a R.made c latest y recorded e in omega (arith, made);
        }

pub begun : (s : Sheet) → Admitted s → (p : Progress) → Reached s p → p.ended ≡ false → Begun s p
begun s a = begun_from s (whole s a)

module _ (s : Sheet) (o : Outset) (a : Admitted s) (p : Progress) (b : BegunFrom s o p) where
  -- its loading puts every order on a train
  pub loads : Loaded s (loading_from s o (take s.orders p.latest))
  loads =
      let latest = take s.orders p.latest in
      every_order_loaded s o latest (λ j l. rw (get_or-take s.orders p.latest j 0 l) (b.latest j l))
      (not_crowded s.orders o.capacity latest s.trains
      (test_fails (decides_crowded s.orders o.capacity latest s.trains) b.uncrowded))

  -- a further round can be counted
  pub few_rounds : p.rounds < most_pairs
  few_rounds = omega (arith, b.within, bound_most s a)

-- whether a round can be made, by tests of the latest trains and of the trains
pub decides_begun : (s : Sheet) (p : Progress) → UpTo s.trains s.orders p.latest → {orderly : Bool} → Decides (BeginsFromOutset s (ordinary s) p) orderly
    → (b : Bool) → b ≡ crowded s.orders s.capacity (take s.orders p.latest) s.trains
    → Decides (Begun s p) ((orderly && not b) && ltb p.rounds (rounds_bound s))
decides_begun s p low o b is =
    let d = decides_crowded s.orders s.capacity (take s.orders p.latest) s.trains in
    rw is
    (decides_iff (λ x. record { orderly = x.0.0; latest = low; uncrowded = x.0.1; within = x.1 }) (λ x. ((x.orderly, x.uncrowded), x.within))
    (decides_and (decides_and o (decides_iff (test_false d) (test_fails d) (decides_not d))) (decides_lt _ _)))

pub not_begun : (s : Sheet) (p : Progress) → ¬ UpTo s.trains s.orders p.latest → Decides (Begun s p) false
not_begun s p high = record { sound = λ x. absurd x; complete = λ b. high b.latest }

-- step 3 of a plan that is better, and of one that is not
module _ (p r : Progress) (t : Times) (z : ℤ) (f : ℕ) where
  pub graded_better : lt_z z p.limit ≡ true → r.recorded ≡ Some t → r.limit ≡ z → r.last ≡ f → Graded p r t z f
  graded_better better recorded limit last = rw better (recorded, limit, last)

  pub graded_worse : lt_z z p.limit ≡ false → r.recorded ≡ None → r.limit ≡ p.limit → r.last ≡ p.last → Graded p r t z f
  graded_worse worse recorded limit last = rw worse (recorded, limit, last)

-- a plan that was made arrives in time
pub made_in_time : (s : Sheet) (o : Outset) → Admitted s → (train : List ℕ) (t : Times)
    → times_from s o train ≡ timed (take s.trains t.departure) (take s.trains t.arrival) (take s.trains t.window)
    → UpTo last_arrival s.trains t.arrival
made_in_time s o a train t e j l =
    let within = (timed_within s a (awaited o.since s.release train s.orders) _ _ _ e).2 (suc j) (omega arith) l in
    let here : suc j - 1 ≡ j = omega arith in
    rw (here, get_or-take s.trains t.arrival j 0 l) at within

module _ (m : memory.Sheet) (a : Admitted (sheet_of m)) where
  pub arrives_to : (arrival latest : List ℕ) → UpTo last_arrival m.train_count arrival → UpTo m.train_count m.order_count latest
      → ArrivesTo m.order_count latest arrival
  arrives_to arrival latest in_time h j l = (omega (arith, h j l, a.few.trains), λ i k. in_time i (omega (arith, k, h j l)))
