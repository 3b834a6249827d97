-- DOCUMENT 02, NO. 13: "The rounds run over the other trains". In every round the gone orders' latest trains stay their own, the loading leaves them on their
-- trains and puts every other order on a train that has not gone, and the gone trains leave and arrive as they did. Assumes nothing.
use Rattle.std.specs.Prelude.{◌≡◌, ◌⊎◌, List, ℕ, ◌≤◌, ◌<◌, ℤ}
use Rattle.std.proofs.Common.{subst, inl, inr, arith}
use Rattle.numbers.specs.Counting.{at, nth}
use Rattle.numbers.specs.DecidesLaws.{decides_le, decided}
use Rattle.numbers.specs.CountingLaws.{count_lt}
use Rattle.model.specs.Sheet.{Sheet, places}
use Rattle.model.specs.Arrival.{arrival}
use Rattle.model.specs.Admission.{Admitted}
use Rattle.model.specs.ShortTrains.{LeavesFrom}
use Rattle.model.specs.Gone.{Gone, gone_trains, gone_by, WentWell, Begins, EmptyTrainsBehind}
use Rattle.model.proofs.GoneTestLaws.{went_among}
use Rattle.rounds.specs.Timing.{timed}
use Rattle.rounds.specs.Recording.{Entry}
use Rattle.rounds.specs.Rounds.{going, loading_from, times_from, start_from, rounds_from}
use Rattle.rounds.proofs.GreedyLaws.{decides_carried}
use Rattle.rounds.proofs.AimLaws.{Aim}
use Rattle.rounds.proofs.OneRoundLaws.{EmptyWait, Going, greedy, all_loaded}
use Rattle.rounds.proofs.InvariantLaws.{reached, next_schedule, next_arrives}
use Rattle.rounds.proofs.SpliceLaws.{arrives_sooner}
use Rattle.rounds.specs.Replan.{behind}
use Rattle.rounds.proofs.GoneLaws.{First, is_left, has_left, first, since_left, all_went, gone_ride, left_ride, aim_behind}

module _ (s : Sheet) (g : Gone) (w : WentWell s g) (a : Admitted s) (enough : s.orders ≤ places (behind s g).capacity s.trains)
    (k c : ℕ) (latest : List ℕ) (y : ℤ) (recorded : List Entry)
    (now : rounds_from s (behind s g) k (start_from (behind s g)) ≡ going c latest y recorded) where
  abbrev n : ℕ
  n = s.orders

  abbrev own : ℕ → ℕ
  own = at (gone_by s g)

  abbrev aim : Aim s
  aim = aim_behind s g w a enough

  pub now_is : Going s aim k c latest y recorded
  now_is = reached s aim k c latest y recorded now

  abbrev train : List ℕ
  train = loading_from s (behind s g) latest

  not_above : (j : ℕ) → j < n → 1 ≤ own j → at latest j ≤ own j
  not_above j l p = go (first s g j l)
    where
      go : First s g j → at latest j ≤ own j
      go (is_left e u) = absurd (omega arith)
      go (has_left e u) = omega (arith, now_is.below j l)

  -- an order whose latest train has gone has gone, by that train or before: step 5 would find a crowd
  bound_went : (j : ℕ) → j < n → at latest j ≤ gone_trains g → (0 < own j) × (own j ≤ at latest j)
  bound_went j l u = go (decided (decides_carried (gone_by s g) 0 (at latest j) j))
    where
      go : ((0 < own j) × (own j ≤ at latest j)) ⊎ (¬ ((0 < own j) × (own j ≤ at latest j))) → (0 < own j) × (own j ≤ at latest j)
      go (inl h) = h
      go (inr h) =
          absurd
          (omega (
            arith,
            all_went s g w (at latest j) u,
            now_is.fits (at latest j) (omega (arith, w.remains)),
            count_lt (decides_carried (gone_by s g) 0 (at latest j)) (λ i. decides_le (at latest i) (at latest j)) n j l (omega arith) h
                (λ i li x. omega (arith, not_above i li (omega arith))),
          ))

  -- THE LATEST TRAINS
  pub gone_stay : (j : ℕ) → j < n → 1 ≤ own j → at latest j ≡ own j
  gone_stay j l p = omega (arith, not_above j l p, (bound_went j l (omega (arith, not_above j l p, went_among s g w j l))).1)

  pub left_stay : (j : ℕ) → j < n → own j ≡ 0 → gone_trains g < at latest j
  left_stay j l e = go (decided (decides_le (at latest j) (gone_trains g)))
    where
      go : (at latest j ≤ gone_trains g) ⊎ (¬ (at latest j ≤ gone_trains g)) → gone_trains g < at latest j
      go (inl u) = absurd (omega (arith, (bound_went j l u).0))
      go (inr u) = omega arith

  -- THE LOADING of the next round
  keeps : (j : ℕ) → j < n → at train j ≤ at (behind s g).latest j
  keeps j l = omega (arith, (greedy s aim k c latest y recorded now_is).keeps j l, now_is.below j l)

  pub gone_loaded : (j : ℕ) → j < n → 1 ≤ own j → at train j ≡ own j
  gone_loaded = gone_ride s g w train (greedy s aim k c latest y recorded now_is).room (all_loaded s aim k c latest y recorded now_is) keeps

  pub left_loaded : (j : ℕ) → j < n → own j ≡ 0 → gone_trains g < at train j
  left_loaded = left_ride s g w train (greedy s aim k c latest y recorded now_is).room (all_loaded s aim k c latest y recorded now_is) keeps

  -- AND ITS TIMES
  module _ (S F W : List ℕ) (t : times_from s (behind s g) train ≡ timed S F W) where
    pub begins : Begins s g train S
    begins = next_schedule s aim k c latest y recorded now_is S F W t

    pub gone_depart : (i : ℕ) → 1 ≤ i → i ≤ gone_trains g → nth S i ≡ nth g.departure i
    gone_depart = begins.times_fixed

    pub gone_arrive : (i : ℕ) → 1 ≤ i → i ≤ gone_trains g → nth F i ≡ arrival s.paths (nth g.departure) i
    gone_arrive i p l =
        omega (
          arith,
          next_arrives s aim k c latest y recorded now_is S F W t i p (omega (arith, w.remains)),
          arrives_sooner s.paths (nth S) (nth g.departure) i (λ m u v. omega (arith, gone_depart m u (omega arith))),
          arrives_sooner s.paths (nth g.departure) (nth S) i (λ m u v. omega (arith, gone_depart m u (omega arith))),
        )

-- the empty trains that have not gone wait only for gap, window and minute
pub empty_behind : (s : Sheet) (g : Gone) (w : WentWell s g) (a : Admitted s) (enough : s.orders ≤ places (behind s g).capacity s.trains) (e : Entry)
    → EmptyWait s (aim_behind s g w a enough) e → EmptyTrainsBehind s g e.plan.train e.plan.departure
empty_behind s g w a enough e h =
    record {
      leave_at_once = λ i u l none. subst (λ (t : ℕ). LeavesFrom s.paths (nth e.plan.departure) t i) (since_left s g i u) (h i (omega arith) l none);
    }
