-- HOW GREAT THE NUMBERS OF A LISTING AND OF A PLAN ARE AT MOST. Assumes nothing.
use Rattle.std.specs.Prelude.{◌≡◌, ℕ, ◌≤◌, ◌<◌, length}
use Rattle.std.proofs.Common.{subst, arith}
use Rattle.numbers.specs.Counting.{at, nth}
use Rattle.model.specs.Sheet.{Paths, windows, timetable, Sheet}
use Rattle.model.specs.Limits.{last_instant, last_arrival, most_pairs, window_counts}
use Rattle.model.specs.Lateness.{pair_at}
use Rattle.model.specs.Booking.{BookedBy}
use Rattle.model.specs.Admission.{FewWindows, Admitted}
use Rattle.rounds.specs.Recording.{Plan, Entry}
use Rattle.rounds.specs.EntryPlan.{EntryPlan, EntryBooked}
use Rattle.rounds.specs.Answers.{given, Listing, list}
use Rattle.rounds.proofs.BoundLaws.{bound_most}
use Rattle.rounds.proofs.ScheduleLaws.{rule, SmallPair, small_pair}
use Rattle.rounds.proofs.AimLaws.{whole}
use Rattle.rounds.proofs.AnswerLaws.{listed_so}

pub record ListSizes (l : Listing) : Type 0 where
  pub few_pairs : length l.pairs ≤ most_pairs
  pub few_rounds : l.rounds ≤ most_pairs
  pub pairs_small : (k : ℕ) → k < length l.pairs → SmallPair (pair_at l.pairs k)

pub record PlanSizes (s : Sheet) (x : Plan) : Type 0 where
  pub placed : length x.train ≡ s.orders
  pub trains_small : (j : ℕ) → j < s.orders → at x.train j ≤ 32
  pub departures_small : (i : ℕ) → 1 ≤ i → i ≤ s.trains → nth x.departure i ≤ last_instant
  pub arrivals_small : (i : ℕ) → 1 ≤ i → i ≤ s.trains → nth x.arrival i ≤ last_arrival
  pub windows_small : (i : ℕ) → 1 ≤ i → i ≤ s.trains → nth x.window i ≤ window_counts.most

-- no window's number is above their count, and a timetable's are 0
number_small : (f : Paths) (t m : ℕ) → FewWindows f → BookedBy f t m → m ≤ window_counts.most
number_small (windows w) t m few h = omega (arith, h.within.numbered.1, few)
number_small (timetable x) t m few h = omega arith

module _ (s : Sheet) (a : Admitted s) where
  pub list_sizes : {l : Listing} → list s ≡ given l → ListSizes l
  list_sizes {l} e =
      let h = listed_so s (whole s a) e in
      let most = bound_most s a in
      record {
        few_pairs = omega (arith, h.few_pairs);
        few_rounds = omega (arith, h.few_rounds);
        pairs_small = λ k u. let (train, departure, h, same) = h.belong k u in subst SmallPair same (small_pair s a train departure h);
      }

  pub plan_sizes : (e : Entry) → EntryPlan s e → EntryBooked s e → PlanSizes s e.plan
  plan_sizes e p b =
      let times = rule s a in
      let x = e.plan in
      record {
        placed = p.schedule.placed;
        trains_small = λ j u. omega (arith, (p.schedule.on_a_train j u).1, a.few.trains);
        departures_small = times.departures_bounded (nth x.departure) p.schedule.departures;
        arrivals_small = λ i u v. rw (p.arrivals i u v) (times.arrivals_bounded (nth x.departure) p.schedule.departures i u v);
        windows_small = λ i u v. number_small s.paths (nth x.departure i) (nth x.window i) a.few.windows (b.by_window i u v);
      }
