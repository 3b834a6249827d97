-- WHAT WAS WRITTEN IS WHAT IS READ. Assumes nothing.
use Rattle.std.specs.Prelude.{◌≡◌, refl, List, [], ◌∷◌, ℤ, pos, get_or, drop}
use Rattle.std.proofs.Common.{sym, ap, ◌∙◌, arith, get_or-append-add}
use Prim.Native.Nat.{ℕ, zero, suc, ◌+◌, ◌-◌, ◌*◌, ◌<◌}
use Rattle.std.proofs.Math.ListN.{length, get_or-append}
use Rattle.std.proofs.Math.Seq.{take_at, ext_get_or}
use Rattle.std.proofs.lemmas.List.{get_or_at}
use Rattle.numbers.specs.Counting.{at, nth, table}
use Rattle.numbers.specs.DecidesLaws.{extend}
use Rattle.numbers.specs.CountingLaws.{table_length, table_at}
use Rattle.numbers.specs.Over.{over}
use Rattle.numbers.specs.OverLaws.{over_at}
use Rattle.model.specs.Sheet.{Sheet}
use Rattle.model.specs.Limits.{numbers_a_pair, numbers_a_train}
use Rattle.model.specs.Lateness.{Pair, pair_at}
use Rattle.rounds.specs.Recording.{Plan, Entry, no_pair}
use Rattle.rounds.specs.EntryPlan.{EntryPlan, EntryBooked}
use Rattle.rounds.specs.Answers.{given}
use Rattle.rounds.specs.Areas.{PlanAreas, pair_numbers, time_numbers, plan_times, plan_left}
use Rattle.rounds.proofs.AreaLaws.{pair_numbers_length, time_numbers_length, plan_times_length}
use Rattle.planner.specs.InAreas.{pair_in, pairs_in, plan_in}

-- ---- the numbers of a pair, and of a train

record PairAt (ps : List Pair) (k : ℕ) : Type 0 where
  last_at : get_or (pair_numbers ps) (numbers_a_pair * k) (pos 0) ≡ pos (pair_at ps k).last
  worst_at : get_or (pair_numbers ps) (numbers_a_pair * k + 1) (pos 0) ≡ (pair_at ps k).worst

pair_found : (ps : List Pair) (k : ℕ) → k < length ps → PairAt ps k
unfolding pair_numbers
pair_found [] k l = absurd (omega arith)
pair_found (p ∷ ps) zero l = record { last_at = refl; worst_at = refl }
pair_found (p ∷ ps) (suc k) l =
    let e : numbers_a_pair * suc k ≡ suc (suc (numbers_a_pair * k)) = omega arith in
    let f : numbers_a_pair * suc k + 1 ≡ suc (suc (numbers_a_pair * k + 1)) = omega arith in
    let h = pair_found ps k (omega arith) in
    record { last_at = rw e h.last_at; worst_at = rw f h.worst_at }

module _ (departure arrival window : List ℕ) where
  abbrev numbers : ℕ → List ℕ
  numbers q = time_numbers departure arrival window q

  record TimesAt (q m : ℕ) : Type 0 where
    departure_at : at (numbers q) (numbers_a_train * m) ≡ nth departure (suc m)
    arrival_at : at (numbers q) (numbers_a_train * m + 1) ≡ nth arrival (suc m)
    window_at : at (numbers q) (numbers_a_train * m + 2) ≡ nth window (suc m)

  times_found : (q m : ℕ) → m < q → TimesAt q m
  unfolding time_numbers
  times_found zero m l = absurd (omega arith)
  times_found (suc q) m l = extend {P = TimesAt (suc q)} q (λ k u. older k u (times_found q k u)) newest m l
    where
      long : length (numbers q) ≡ numbers_a_train * q
      long = time_numbers_length departure arrival window q

      last : List ℕ
      last = nth departure (suc q) ∷ nth arrival (suc q) ∷ nth window (suc q) ∷ []

      older : (k : ℕ) → k < q → TimesAt q k → TimesAt (suc q) k
      older k u h =
          let before = get_or-append (numbers q) last 0 in
          record {
            departure_at = before (numbers_a_train * k) (omega (arith, long)) ∙ h.departure_at;
            arrival_at = before (numbers_a_train * k + 1) (omega (arith, long)) ∙ h.arrival_at;
            window_at = before (numbers_a_train * k + 2) (omega (arith, long)) ∙ h.window_at;
          }

      newest : TimesAt (suc q) q
      newest =
          let behind = get_or-append-add (numbers q) last in
          record {
            departure_at = get_or_at (numbers q) (nth departure (suc q)) (nth arrival (suc q) ∷ nth window (suc q) ∷ []) 0 (numbers_a_train * q) long;
            arrival_at = rw (sym long) (behind 1 0);
            window_at = rw (sym long) (behind 2 0);
          }

-- ---- the areas

module _ (ps : List Pair) (found : List ℤ) where
  abbrev left : List ℤ
  left = over (pair_numbers ps) found

  -- the two numbers of a listed pair
  pub numbers_read : (k : ℕ) → k < length ps
      → (get_or left (numbers_a_pair * k) (pos 0) ≡ pos (pair_at ps k).last) × (get_or left (numbers_a_pair * k + 1) (pos 0) ≡ (pair_at ps k).worst)
  numbers_read k l =
      let h = pair_found ps k l in
      let m = pair_numbers_length ps in (
        over_at (pair_numbers ps) found (pos 0) (numbers_a_pair * k) (omega arith) ∙ h.last_at,
        over_at (pair_numbers ps) found (pos 0) (numbers_a_pair * k + 1) (omega arith) ∙ h.worst_at,
      )

  pair_read : (k : ℕ) → k < length ps → pair_in left k ≡ pair_at ps k
  pair_read k l = let (last, worst) = numbers_read k l in rw (last, worst) refl

  pub pairs_read : pairs_in (length ps) left ≡ ps
  unfolding pairs_in
  pairs_read =
      let m = table_length (pair_in left) (length ps) in
      ext_get_or no_pair (table (pair_in left) (length ps)) ps m
      (λ k l. let u : k < length ps = omega (arith, l, m) in table_at (pair_in left) no_pair (length ps) k u ∙ pair_read k u)

-- plans with the same columns
same_plan : {t t₀ d d₀ a a₀ w w₀ : List ℕ} → t ≡ t₀ → d ≡ d₀ → a ≡ a₀ → w ≡ w₀
    → ◌≡◌ {A = Plan} (record { train = t; departure = d; arrival = a; window = w }) (record { train = t₀; departure = d₀; arrival = a₀; window = w₀ })
same_plan t d a w = rw (t, d, a, w) refl

module _ (s : Sheet) (e : Entry) (found : PlanAreas) (placed : EntryPlan s e) (booked : EntryBooked s e) where
  -- a column of times, read at every third place
  column : (l : List ℕ) (f : ℕ → ℕ) → length l ≡ s.trains → ((m : ℕ) → m < s.trains → f m ≡ nth l (suc m)) → table f s.trains ≡ l
  column l f e h =
      ext_get_or 0 (table f s.trains) l (table_length f s.trains ∙ sym e)
      (λ m k. let u : m < s.trains = omega (arith, k, table_length f s.trains) in
      let v : suc m - 1 ≡ m = omega arith in
      table_at f 0 s.trains m u ∙ h m u ∙ ap (at l) v)

  abbrev x : Plan
  x = e.plan

  abbrev written : List ℕ
  written = plan_times s x

  written_at : (k : ℕ) → k < numbers_a_train * s.trains → at (over written found.times) k ≡ at written k
  written_at k l = over_at written found.times 0 k (omega (arith, plan_times_length s x))

  pub plan_read : plan_in s (plan_left s (given e) found) ≡ x
  unfolding plan_in plan_left
  plan_read =
      let times = times_found x.departure x.arrival x.window s.trains in
      let train = take_at x.train (drop (length x.train) found.trains) s.orders placed.schedule.placed in
      let departure = column x.departure (λ m. at (over written found.times) (numbers_a_train * m)) placed.schedule.departs
      (λ m l. written_at (numbers_a_train * m) (omega arith) ∙ (times m l).departure_at) in
      let arrival = column x.arrival (λ m. at (over written found.times) (numbers_a_train * m + 1)) placed.arrives
      (λ m l. written_at (numbers_a_train * m + 1) (omega arith) ∙ (times m l).arrival_at) in
      let window = column x.window (λ m. at (over written found.times) (numbers_a_train * m + 2)) booked.each_train
      (λ m l. written_at (numbers_a_train * m + 2) (omega arith) ∙ (times m l).window_at) in
      same_plan train departure arrival window
