-- From the trains that a loading begins with to the trains of document 01's loading. Assumes nothing.
use Rattle.std.specs.Prelude.{◌≡◌, refl, ◌⊎◌, Bool, true, false, cond, List, ℕ, ◌≤◌, ◌<◌, leb, length, take}
use Rattle.std.proofs.Common.{sym, ap, ◌∙◌, inl, inr, arith, get_or-take}
use Rattle.numbers.specs.Counting.{at, nth, count}
use Rattle.numbers.specs.DecidesLaws.{Decides, decides_le, decided}
use Rattle.numbers.specs.CountingLaws.{count_mono, count_cong, count_none}
use Rattle.rounds.specs.Riding.{on}
use Rattle.rounds.proofs.LoadingLaws.{decides_on}
use Rattle.rounds.specs.Loading.{load}
use Rattle.rounds.specs.Settled.{SettledAt, Settled}
use Rattle.rounds.proofs.SettledLaws.{settled_is_load, load_settles}
use Rattle.loading.specs.Orderly.{Orderly}
use Rattle.riders.specs.Standing.{standing, Lowest}
use Rattle.riders.proofs.StandingLaws.{least_below}
use Rattle.riders.specs.Riders.{stays, Stays, Counted}
use Rattle.loading.specs.ToLoad.{loading_of}
use Rattle.loading.specs.Stage.{Stage, Known}

module _ (n q : ℕ) (release capacity : ℕ → ℕ) (latest : List ℕ) where
  data Stayed (before : ℕ) (j now : ℕ) : Type 0 where
    in_time : now ≡ before → before ≤ at latest j → Stayed before j now
    too_late : now ≡ 0 → Stayed before j now

  stayed : (before : List ℕ) (j now : ℕ) → now ≡ stays latest before j → Stayed (at before j) j now
  stayed before j now e = go (leb (at before j) (at latest j)) (decides_le (at before j) (at latest j)) e
    where
      go : (b : Bool) → Decides (at before j ≤ at latest j) b → now ≡ cond b (at before j) 0 → Stayed (at before j) j now
      go true d e = in_time e (d.sound tt)
      go false d e = too_late e

  -- before the last train's turn: those who are too late have lost their trains
  module _ (before train : List ℕ) (o : Orderly n q release capacity latest before) (k : Stays n latest before train) (few : q ≤ 32)
      (may : (j : ℕ) → j < n → at latest j ≤ q) where
    now : (j : ℕ) → j < n → Stayed (at before j) j (at train j)
    now j l = stayed before j (at train j) (k j l)

    keeps : (j : ℕ) → Stayed (at before j) j (at train j) → at train j ≤ at latest j
    keeps j (in_time a b) = omega arith
    keeps j (too_late a) = omega arith

    -- who has a train has had it before
    had : (j : ℕ) → j < n → 1 ≤ at train j → at train j ≡ at before j
    had j l p = go (now j l)
      where
        go : Stayed (at before j) j (at train j) → at train j ≡ at before j
        go (in_time a b) = a
        go (too_late a) = absurd (omega arith)

    -- behind the sheet's last train
    none : (m : ℕ) → q < m → count (on train m) n ≡ 0
    none m l = count_none (decides_on train m) n (λ j lj e. omega (arith, keeps j (now j lj), may j lj))

    nobody : (m : ℕ) → q < m → SettledAt n release (capacity m) latest train m
    nobody m l =
        record {
          room = omega (arith, none m l);
          beaten = λ x y lx ly e c. absurd (omega (arith, c.1, may y ly));
          full = λ y ly c. absurd (omega (arith, c.1, may y ly));
        }

    pub begins : Stage n release capacity latest q train
    begins =
        record {
          above =
              record {
                upto = λ j l. omega (arith, keeps j (now j l), may j l);
                keeps = λ j l. keeps j (now j l);
                settled = λ m l h. nobody m l;
              };
          room = λ m p l. room m p (decided (decides_le m q));
          beaten = λ x y lx ly h p c.
              let ex = had x lx (omega (arith, c.0)) in
              let ey = had y ly p in
              o.beaten x y lx ly (omega arith) (omega (arith, c.0), omega (arith, c.1));
        }
      where
        room : (m : ℕ) → 1 ≤ m → (m ≤ q) ⊎ (¬ (m ≤ q)) → count (on train m) n ≤ capacity m
        room m p (inl l) =
            omega (
              arith,
              o.room m p l,
              count_mono (decides_on train m) (decides_on before m) n (λ j lj e. sym (had j lj (omega arith)) ∙ e),
            )
        room m p (inr l) = omega (arith, none m (omega arith))

    pub known_first : (held low : List ℕ) (top challenger : ℕ) → Counted n before held
        → Lowest n release before low
        → ((j : ℕ) → j < n → at train j ≡ 0 → 1 ≤ at latest j → (at latest j ≤ top) × (standing release j ≤ challenger))
        → Known n release capacity latest held low top challenger q train
    known_first held low top challenger c lows waits =
        record {
          lows = λ x l p h.
              let e = had x l p in
              rw e
              (omega (
                arith,
                lows (at before x) (omega (arith, o.up_to x l)),
                least_below (decides_on before (at before x)) (standing release) n x l refl,
              ));
          full = λ y m l p h d.
              let e = had y l p in
              c.counted m (omega arith) ∙ o.full y m l (omega arith) (omega (arith, d.0), d.1);
          waits = waits;
        }

-- of a sheet of q trains, by the latest trains of its n orders, whatever stands behind them
settled_first : (n q : ℕ) (release capacity : ℕ → ℕ) (latest train : List ℕ) → q ≤ 32 → ((j : ℕ) → j < n → at latest j ≤ q)
    → Settled n 32 release capacity latest train → Settled n q release capacity (take n latest) train
settled_first n q release capacity latest train few may s =
    record {
      upto = λ j l. omega (arith, s.keeps j l, may j l);
      keeps = λ j l. omega (arith, s.keeps j l, same j l);
      settled = λ m l k.
          let z = s.settled m l (omega arith) in
          record {
            room = z.room;
            beaten = λ x y lx ly e c. z.beaten x y lx ly e (c.0, omega (arith, c.1, same y ly));
            full = λ y ly c. z.full y ly (c.0, omega (arith, c.1, same y ly));
          };
    }
  where
    same : (j : ℕ) → j < n → at (take n latest) j ≡ at latest j
    same j l = get_or-take n latest j 0 l

-- AFTER THE FIRST TRAIN'S TURN IT IS DOCUMENT 01'S LOADING
pub stage_loads : (n q : ℕ) (release : ℕ → ℕ) (capacity latest train : List ℕ) → n ≤ length train → q ≤ 32
    → ((j : ℕ) → j < n → at latest j ≤ q) → Stage n release (nth capacity) latest 0 train → take n train ≡ loading_of n q release capacity latest
stage_loads n q release capacity latest train long few may s =
    settled_is_load n q release (nth capacity) (take n latest) train long (settled_first n q release (nth capacity) latest train few may s.above)

-- ---- which trains are orderly

-- none at all
pub orderly_none : (n q : ℕ) (release capacity : ℕ → ℕ) (latest train : List ℕ) → ((j : ℕ) → j < n → at train j ≡ 0)
    → Orderly n q release capacity latest train
orderly_none n q release capacity latest train none =
    record {
      up_to = λ j l. omega (arith, none j l);
      room = λ i p l. omega (arith, count_none (decides_on train i) n (λ j lj e. omega (arith, none j lj)));
      beaten = λ x y lx ly p c. absurd (omega (arith, none y ly));
      full = λ y i ly p c. absurd (omega (arith, none y ly));
    }

-- THE TRAINS OF A ROUND ARE ORDERLY FOR THE NEXT, where no latest train has risen
pub orderly_next : (n q : ℕ) (release capacity : ℕ → ℕ) (latest lower train : List ℕ) → take n train ≡ load n q release capacity latest
    → ((j : ℕ) → j < n → at latest j ≤ q) → ((j : ℕ) → j < n → at lower j ≤ at latest j) → Orderly n q release capacity lower train
orderly_next n q release capacity latest lower train loads low fell =
    record {
      up_to = λ j l. omega (arith, same j l, s.upto j l);
      room = λ i p l. omega (arith, same_count i, (s.settled i p l).room);
      beaten = λ x y lx ly p c.
          let ex = same x lx in
          let ey = same y ly in
          let i : ℕ = at train x in
          (s.settled (at train x) (omega (arith, c.0)) (omega (arith, s.upto x lx))).beaten x y lx ly (sym ex)
          (omega (arith, c.0), omega (arith, c.1, fell y ly));
      full = λ y i ly p c.
          let ey = same y ly in
          same_count i
          ∙ (s.settled i (omega (arith, c.0)) (omega (arith, c.1, fell y ly, low y ly))).full y ly (omega (arith, c.0), omega (arith, c.1, fell y ly));
    }
  where
    s : Settled n q release capacity latest (load n q release capacity latest)
    s = load_settles n q release capacity latest

    same : (j : ℕ) → j < n → at train j ≡ at (load n q release capacity latest) j
    same j l = sym (get_or-take n train j 0 l) ∙ ap (λ (t : List ℕ). at t j) loads

    same_count : (i : ℕ) → count (on train i) n ≡ count (on (load n q release capacity latest) i) n
    same_count i =
        count_cong (decides_on train i) (decides_on (load n q release capacity latest) i) n (λ j l e. sym (same j l) ∙ e) (λ j l e. same j l ∙ e)
