-- OUTSETS THAT AGREE, and only what an outset says of trains 1 to q counts: a search from either is the same. Assumes nothing.
use Rattle.std.specs.Prelude.{◌≡◌, ℤ}
use Rattle.std.proofs.Math.Path.{refl, ap}
use Rattle.std.proofs.Common.{◌∙◌, arith}
use mathlib.Core.List.{List, []}
use Prim.Native.Nat.{ℕ, zero, suc, ◌≤◌}
use Rattle.std.proofs.Math.Dec.{leb}
use Rattle.numbers.specs.Counting.{at, nth, count}
use Rattle.numbers.specs.CountingLaws.{every_same_below}
use Rattle.model.specs.Sheet.{Windows, Paths, windows, timetable, Sheet, places}
use Rattle.model.specs.Lateness.{worst}
use Rattle.rounds.specs.Outset.{Outset}
use Rattle.rounds.specs.Loading.{take_orders, load_down, load}
use Rattle.rounds.specs.Timing.{awaited, departures, on_timetable, timing, Timed, stopped, timed}
use Rattle.rounds.specs.Lowering.{lower, crowded}
use Rattle.rounds.specs.Recording.{Plan, Entry, record_entry}
use Rattle.rounds.specs.Rounds.{Search, going, ended, above_everything, start_from, loading_from, times_from, settle, grade, depart}
use Rattle.rounds.specs.Rounds.{round_from, rounds_from, search_from}
use Rattle.rounds.specs.RoundsBound.{rounds_bound}
use Rattle.rounds.specs.Answers.{list_from, choose_from}
use Rattle.rounds.specs.SettingOut.{Sets, Agree}

-- ---- the parts of a round, of columns f and g that agree up to some train

module _ (f g : ℕ → ℕ) where
  abbrev pub AgreeTo : ℕ → Type 0
  AgreeTo i = (k : ℕ) → 1 ≤ k → k ≤ i → f k ≡ g k

  load_same : (n : ℕ) (release : ℕ → ℕ) (latest : List ℕ) (i : ℕ) → AgreeTo i → (train : List ℕ)
      → load_down n release f latest i train ≡ load_down n release g latest i train
  unfolding load_down
  load_same n release latest zero h train = refl
  load_same n release latest (suc i) h train =
      rw (h (suc i) (omega arith) (omega arith))
      (load_same n release latest i (λ k p l. h k p (omega arith)) (take_orders n release latest (suc i) (g (suc i)) train))

  pub places_same : (i : ℕ) → AgreeTo i → places f i ≡ places g i
  unfolding places
  places_same zero h = refl
  places_same (suc i) h = rw (places_same i (λ k p l. h k p (omega arith)), h (suc i) (omega arith) (omega arith))

  crowded_same : (n : ℕ) (latest : List ℕ) (q : ℕ) → AgreeTo q → crowded n f latest q ≡ crowded n g latest q
  unfolding crowded
  crowded_same n latest zero h = rw (places_same 0 h)
  crowded_same n latest (suc q) h = rw (places_same (suc q) h, crowded_same n latest q (λ k p l. h k p (omega arith)))

  departures_same : (w : Windows) (i : ℕ) → AgreeTo i → departures w f i ≡ departures w g i
  unfolding departures
  departures_same w zero h = refl
  departures_same w (suc i) h = rw (departures_same w i (λ k p l. h k p (omega arith)), h (suc i) (omega arith) (omega arith))

  pub timing_same : (paths : Paths) (q : ℕ) → AgreeTo q → timing paths q f ≡ timing paths q g
  unfolding timing on_timetable
  timing_same (windows w) q h = rw (departures_same w q h)
  timing_same (timetable t) q h =
      rw (every_same_below (λ m. leb (f (suc m)) (t.departure (suc m))) (λ m. leb (g (suc m)) (t.departure (suc m))) q
      (λ j l. rw (h (suc j) (omega arith) l)))

  awaited_same : (release : ℕ → ℕ) (train : List ℕ) (n i : ℕ) → f i ≡ g i → awaited f release train n i ≡ awaited g release train n i
  unfolding awaited
  awaited_same release train zero i e = e
  awaited_same release train (suc n) i e = rw (awaited_same release train n i e)

-- ---- SO A SEARCH FROM EITHER IS THE SAME

module _ (s : Sheet) (o o' : Outset) (h : Agree s.trains o o') where
  loads_same : (latest : List ℕ) → loading_from s o latest ≡ loading_from s o' latest
  unfolding load
  loads_same latest = load_same o.capacity o'.capacity s.orders s.release latest s.trains (λ i p l. h.capacity i p) _

  times_same : (train : List ℕ) → times_from s o train ≡ times_from s o' train
  times_same train =
      timing_same (awaited o.since s.release train s.orders) (awaited o'.since s.release train s.orders) s.paths s.trains
      (λ i p l. awaited_same o.since o'.since s.release train s.orders i (h.since i p l))

  settles_same : (c : ℕ) (latest : List ℕ) (y : ℤ) (recorded : List Entry) (F : ℕ → ℕ)
      → settle s o c latest y recorded F ≡ settle s o' c latest y recorded F
  unfolding settle
  settles_same c latest y recorded F =
      rw (crowded_same o.capacity o'.capacity s.orders (lower s.orders s.weight s.due F y latest) s.trains (λ i p l. h.capacity i p))

  grades_same : (c : ℕ) (latest : List ℕ) (y : ℤ) (recorded : List Entry) (plan : Plan)
      → grade s o c latest y recorded plan ≡ grade s o' c latest y recorded plan
  unfolding grade
  grades_same c latest y recorded plan =
      let F = nth plan.arrival in
      let z = worst s plan.train F in
      rw (
        settles_same c latest z (record_entry recorded (record { pair = record { last = F s.trains; worst = z }; plan = plan })) F,
        settles_same c latest y recorded F,
      )

  departs_same : (c : ℕ) (latest : List ℕ) (y : ℤ) (recorded : List Entry) (train : List ℕ) (t : Timed)
      → depart s o c latest y recorded train t ≡ depart s o' c latest y recorded train t
  unfolding depart
  departs_same c latest y recorded train stopped = refl
  departs_same c latest y recorded train (timed S F W) =
      grades_same c latest y recorded (record { train = train; departure = S; arrival = F; window = W })

  pub round_same : (x : Search) → round_from s o x ≡ round_from s o' x
  unfolding round_from
  round_same (ended c recorded) = refl
  round_same (going c latest y recorded) =
      let train = loading_from s o' latest in
      rw (loads_same latest, times_same train) (departs_same (suc c) latest y recorded train (times_from s o' train))

  rounds_same : (k : ℕ) (x : Search) → rounds_from s o k x ≡ rounds_from s o' k x
  unfolding rounds_from
  rounds_same zero x = refl
  rounds_same (suc k) x = rw (round_same x) (rounds_same k (round_from s o' x))

  pub search_same : search_from s o ≡ search_from s o'
  unfolding search_from start_from
  search_same =
      rounds_same (rounds_bound s) (start_from o)
      ∙ ap (λ (l : List ℕ). rounds_from s o' (rounds_bound s) (going 0 l above_everything [])) h.latest

  pub list_same : list_from s o ≡ list_from s o'
  unfolding list_from
  list_same = rw search_same

  pub choose_same : (wish : ℕ) → choose_from s o wish ≡ choose_from s o' wish
  unfolding choose_from
  choose_same wish = rw search_same

  -- and it can be set out from either
  pub sets_same : Sets s o' → Sets s o
  sets_same k =
      record {
        upto = λ j l. omega (arith, ap (λ (t : List ℕ). at t j) h.latest, k.upto j l);
        fits = λ i l.
            omega (
              arith,
              ap (λ (t : List ℕ). count (λ j. leb (at t j) i) s.orders) h.latest,
              places_same o.capacity o'.capacity i (λ m p u. h.capacity m p),
              k.fits i l,
            );
        fewer = λ i p. omega (arith, h.capacity i p, k.fewer i p);
      }
