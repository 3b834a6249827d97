-- THE LOADING IS SETTLED, AND IT IS THE ONLY ONE. So it is greedy, too. Assumes nothing.
use Rattle.std.specs.Prelude.{◌≡◌, refl, ◌⊎◌, List, length, replicate, take}
use Rattle.std.proofs.Common.{sym, ◌∙◌, inr, length-take, ext_get_or, get_or-take}
use Rattle.std.proofs.Math.Logic.{inl}
use Prim.Native.Nat.{ℕ, zero, suc, ◌+◌, ◌≤◌, ◌<◌}
use native.Mathlib.Omega.{arith}
use Rattle.std.proofs.lemmas.List.{length-replicate}
use Rattle.std.proofs.Math.ListN.{get_or-replicate}
use Rattle.numbers.specs.Counting.{at, count}
use Rattle.numbers.specs.DecidesLaws.{decides_le, decides_lt, decides_eq, decided}
use Rattle.numbers.specs.CountingLaws.{count_cong, count_lt, count_none}
use Rattle.rounds.specs.Loading.{take_orders, load_down, load}
use Rattle.rounds.specs.Riding.{Below, on}
use Rattle.rounds.proofs.LoadingLaws.{Free, decides_on, Took, take_orders_is, none_led}
use Rattle.rounds.proofs.GreedyLaws.{Greedy}
use Rattle.rounds.specs.Settled.{Could, SettledAt, SettledAbove, Settled}

-- neither of two orders is below the other at once
below_not : (release : ℕ → ℕ) (j k : ℕ) → Below release j k → Below release k j → ⊥
below_not release j k a b =
    let e : release j ≡ release k = omega (arith, a.no_later, b.no_later) in
    omega (arith, a.tie e, b.tie (sym e))

-- ---- a train stays settled while those on it or above stay, and those below stay below

abbrev pub Kept : (n m : ℕ) (before after : List ℕ) → Type 0
Kept n m before after = (j : ℕ) → j < n → (at after j ≡ at before j) ⊎ ((at before j < m) × (at after j < m))

module _ (n : ℕ) (release : ℕ → ℕ) (k : ℕ) (latest : List ℕ) (m : ℕ) (before after : List ℕ) (kept : Kept n m before after) where
  was_on : (j : ℕ) → j < n → at after j ≡ m → at before j ≡ m
  was_on j l e = go (kept j l)
    where
      go : (at after j ≡ at before j) ⊎ ((at before j < m) × (at after j < m)) → at before j ≡ m
      go (inl a) = sym a ∙ e
      go (inr a) = absurd (omega arith)

  is_on : (j : ℕ) → j < n → at before j ≡ m → at after j ≡ m
  is_on j l e = go (kept j l)
    where
      go : (at after j ≡ at before j) ⊎ ((at before j < m) × (at after j < m)) → at after j ≡ m
      go (inl a) = a ∙ e
      go (inr a) = absurd (omega arith)

  was_below : (j : ℕ) → j < n → at after j < m → at before j < m
  was_below j l e = go (kept j l)
    where
      go : (at after j ≡ at before j) ⊎ ((at before j < m) × (at after j < m)) → at before j < m
      go (inl a) = omega arith
      go (inr a) = a.0

  same_riders : count (on after m) n ≡ count (on before m) n
  same_riders = count_cong (decides_on after m) (decides_on before m) n was_on is_on

  pub settled_kept : SettledAt n release k latest before m → SettledAt n release k latest after m
  settled_kept s =
      record {
        room = omega (arith, same_riders, s.room);
        beaten = λ x y lx ly e c. s.beaten x y lx ly (was_on x lx e) (was_below y ly c.0, c.1);
        full = λ y ly c. same_riders ∙ s.full y ly (was_below y ly c.0, c.1);
      }

-- one train further down
pub settled_next : (n q : ℕ) (release capacity : ℕ → ℕ) (latest : List ℕ) (i : ℕ) (train : List ℕ)
    → SettledAbove n q release capacity latest (suc i) train → SettledAt n release (capacity (suc i)) latest train (suc i)
    → SettledAbove n q release capacity latest i train
settled_next n q release capacity latest i train s z =
    record { upto = s.upto; keeps = s.keeps; settled = λ m a b. go m a b (decided (decides_eq m (suc i))) }
  where
    go : (m : ℕ) → i < m → m ≤ q → (m ≡ suc i) ⊎ (¬ (m ≡ suc i)) → SettledAt n release (capacity m) latest train m
    go m a b (inl e) = rw e z
    go m a b (inr e) = s.settled m (omega arith) b

-- ---- two settled loadings are one

module _ (n q : ℕ) (release capacity : ℕ → ℕ) (latest : List ℕ) where
  -- if order j rides i in t, then in u too, where both agree on the trains above i
  module _ (t u : List ℕ) (s : Settled n q release capacity latest t) (z : Settled n q release capacity latest u) (i : ℕ) (pi : 1 ≤ i) (qi : i ≤ q)
      (same : (j : ℕ) → j < n → (i < at t j) ⊎ (i < at u j) → at t j ≡ at u j) where
    both : (j : ℕ) → j < n → at t j ≡ i → at u j ≡ i
    both j lj e = go (decided (decides_lt i (at u j))) (decided (decides_eq (at u j) i))
      where
        -- else a rider of i in u, too, is left behind in t
        stays : Could latest u i j → (x : ℕ) → x < n → at u x ≡ i → (i < at t x) ⊎ (¬ (i < at t x)) → (at t x ≡ i) ⊎ (¬ (at t x ≡ i)) → at t x ≡ i
        stays c x lx f (inl a) b = same x lx (inl a) ∙ f
        stays c x lx f (inr a) (inl b) = b
        stays c x lx f (inr a) (inr b) =
            absurd
            (below_not release x j ((s.settled i pi qi).beaten j x lj lx e (omega arith, omega (arith, z.keeps x lx)))
            ((z.settled i pi qi).beaten x j lx lj f c))

        crowd : Could latest u i j → ⊥
        crowd c =
            omega (
              arith,
              (s.settled i pi qi).room,
              (z.settled i pi qi).full j lj c,
              count_lt (decides_on u i) (decides_on t i) n j lj e (λ f. omega (arith, c.0))
                  (λ x lx f. stays c x lx f (decided (decides_lt i (at t x))) (decided (decides_eq (at t x) i))),
            )

        go : (i < at u j) ⊎ (¬ (i < at u j)) → (at u j ≡ i) ⊎ (¬ (at u j ≡ i)) → at u j ≡ i
        go (inl a) b = sym (same j lj (inr a)) ∙ e
        go (inr a) (inl b) = b
        go (inr a) (inr b) = absurd (crowd (omega arith, omega (arith, s.keeps j lj)))

  module _ (t u : List ℕ) (s : Settled n q release capacity latest t) (z : Settled n q release capacity latest u) where
    Agree : ℕ → Type 0
    Agree i = (j : ℕ) → j < n → (i < at t j) ⊎ (i < at u j) → at t j ≡ at u j

    -- from train d + i down to i
    agree : (d i : ℕ) → d + i ≡ q → Agree i
    unfolding Agree
    agree zero i e = λ j l a. none j l a
      where
        none : (j : ℕ) → j < n → (i < at t j) ⊎ (i < at u j) → at t j ≡ at u j
        none j l (inl a) = absurd (omega (arith, s.upto j l))
        none j l (inr a) = absurd (omega (arith, z.upto j l))
    agree (suc d) i e = next (agree d (suc i) (omega arith))
      where
        next : Agree (suc i) → Agree i
        next f j l a = go (decided (decides_eq (at t j) (suc i))) (decided (decides_eq (at u j) (suc i)))
          where
            more : (i < at t j) ⊎ (i < at u j) → ¬ (at t j ≡ suc i) → ¬ (at u j ≡ suc i) → at t j ≡ at u j
            more (inl v) b c = f j l (inl (omega arith))
            more (inr v) b c = f j l (inr (omega arith))

            flip : (x : ℕ) → x < n → (suc i < at u x) ⊎ (suc i < at t x) → at u x ≡ at t x
            flip x lx (inl v) = sym (f x lx (inr v))
            flip x lx (inr v) = sym (f x lx (inl v))

            go : (at t j ≡ suc i) ⊎ (¬ (at t j ≡ suc i)) → (at u j ≡ suc i) ⊎ (¬ (at u j ≡ suc i)) → at t j ≡ at u j
            go (inl b) c = b ∙ sym (both t u s z (suc i) (omega arith) (omega arith) f j l b)
            go (inr b) (inl c) = both u t z s (suc i) (omega arith) (omega arith) flip j l c ∙ sym c
            go (inr b) (inr c) = more a b c

    pub settled_same : (j : ℕ) → j < n → at t j ≡ at u j
    unfolding Agree
    settled_same j l = go (decided (decides_lt 0 (at t j))) (decided (decides_lt 0 (at u j)))
      where
        go : (0 < at t j) ⊎ (¬ (0 < at t j)) → (0 < at u j) ⊎ (¬ (0 < at u j)) → at t j ≡ at u j
        go (inl a) b = agree q 0 (omega arith) j l (inl a)
        go (inr a) (inl b) = agree q 0 (omega arith) j l (inr b)
        go (inr a) (inr b) = omega arith

-- ---- the loading is settled

-- no order rides trains 1 .. i yet
abbrev Unused : (n i : ℕ) → List ℕ → Type 0
Unused n i train = (j : ℕ) → j < n → (at train j ≡ 0) ⊎ (i < at train j)

module _ (n q : ℕ) (release capacity : ℕ → ℕ) (latest : List ℕ) where
  -- train i + 1 takes its orders
  module _ (i : ℕ) (qi : suc i ≤ q) (before after : List ℕ) (unused : Unused n (suc i) before)
      (h : Took n release latest (suc i) (omega arith) (capacity (suc i)) before after) where
    abbrev Moved : ℕ → Type 0
    Moved j = (at after j ≡ at before j) ⊎ (Free latest before (suc i) j × (at after j ≡ suc i))

    unused_next : Unused n i after
    unused_next j l = go (unused j l) (h.moved j l)
      where
        go : (at before j ≡ 0) ⊎ (suc i < at before j) → Moved j → (at after j ≡ 0) ⊎ (i < at after j)
        go (inl a) (inl b) = inl (b ∙ a)
        go (inr a) (inl b) = inr (omega arith)
        go a (inr b) = inr (omega arith)

    left_free : (y : ℕ) → y < n → Could latest after (suc i) y → Free latest after (suc i) y
    left_free y l c = go (unused_next y l)
      where
        go : (at after y ≡ 0) ⊎ (i < at after y) → Free latest after (suc i) y
        go (inl a) = (a, c.1)
        go (inr a) = absurd (omega (arith, c.0))

    before_none : count (on before (suc i)) n ≡ 0
    before_none = count_none (decides_on before (suc i)) n (λ j l e. go j e (unused j l))
      where
        go : (j : ℕ) → at before j ≡ suc i → (at before j ≡ 0) ⊎ (suc i < at before j) → ⊥
        go j e (inl a) = omega arith
        go j e (inr a) = omega arith

    took_settled : SettledAt n release (capacity (suc i)) latest after (suc i)
    took_settled =
        record {
          room = omega (arith, before_none, h.room);
          beaten = λ x y lx ly e c. h.led y x ly lx (left_free y ly c) e;
          full = λ y ly c. omega (arith, before_none, h.room, h.full y ly (left_free y ly c));
        }

    took_kept : (m : ℕ) → suc i < m → Kept n m before after
    took_kept m l j lj = go (h.moved j lj)
      where
        go : Moved j → (at after j ≡ at before j) ⊎ ((at before j < m) × (at after j < m))
        go (inl a) = inl a
        go (inr a) = inr (omega (arith, a.0.0), omega (arith, a.1))

    took_above : SettledAbove n q release capacity latest (suc i) before → SettledAbove n q release capacity latest i after
    took_above s = settled_next n q release capacity latest i after still took_settled
      where
        low : (j : ℕ) → j < n → Moved j → at after j ≤ q
        low j l (inl a) = omega (arith, s.upto j l)
        low j l (inr a) = omega (arith, a.1)

        early : (j : ℕ) → j < n → Moved j → at after j ≤ at latest j
        early j l (inl a) = omega (arith, s.keeps j l)
        early j l (inr a) = omega (arith, a.1, a.0.1)

        still : SettledAbove n q release capacity latest (suc i) after
        still =
            record {
              upto = λ j l. low j l (h.moved j l);
              keeps = λ j l. early j l (h.moved j l);
              settled = λ m l k. settled_kept n release (capacity m) latest m before after (took_kept m l) (s.settled m l k);
            }

  -- trains i down to 1 take theirs
  record Downed (train after : List ℕ) : Type 0 where
    size : length after ≡ length train
    settled : Settled n q release capacity latest after

  down_settles : (i : ℕ) (train : List ℕ) → i ≤ q → length train ≡ n → Unused n i train → SettledAbove n q release capacity latest i train
      → Downed train (load_down n release capacity latest i train)
  unfolding load_down
  down_settles zero train l len c s = record { size = refl; settled = s }
  down_settles (suc i) train l len c s =
      let rest = down_settles i (take_orders n release latest (suc i) (capacity (suc i)) train) (omega arith) (took.size ∙ len)
      (unused_next i l train _ c took) (took_above i l train _ c took s) in
      record { size = rest.size ∙ took.size; settled = rest.settled }
    where
      none : (j : ℕ) → j < n → ¬ (at train j ≡ suc i)
      none j lj e = go (c j lj)
        where
          go : (at train j ≡ 0) ⊎ (suc i < at train j) → ⊥
          go (inl a) = omega arith
          go (inr a) = omega arith

      took : Took n release latest (suc i) (omega arith) (capacity (suc i)) train (take_orders n release latest (suc i) (capacity (suc i)) train)
      took =
          take_orders_is n release latest (suc i) (omega arith) (capacity (suc i)) train len (none_led n release latest (suc i) (omega arith) train none)

  abbrev loaded : List ℕ
  loaded = load n q release capacity latest

  load_is : Downed (replicate n 0) loaded
  unfolding load
  load_is =
      down_settles q (replicate n 0) (omega arith) (length-replicate n 0) (λ j l. inl (empty j l))
      (record {
        upto = λ j l. omega (arith, empty j l);
        keeps = λ j l. omega (arith, empty j l);
        settled = λ m l k. absurd (omega arith);
      })
    where
      empty : (j : ℕ) → j < n → at (replicate n 0) j ≡ 0
      empty j l = get_or-replicate n j 0 0 l

  pub load_length : length loaded ≡ n
  load_length = load_is.size ∙ length-replicate n 0

  -- THE LOADING IS SETTLED
  pub load_settles : Settled n q release capacity latest loaded
  load_settles = load_is.settled

  -- AND WHATEVER IS SETTLED IS THE LOADING, which a column of n or more elements begins with
  pub settled_is_load : (train : List ℕ) → n ≤ length train → Settled n q release capacity latest train → take n train ≡ loaded
  settled_is_load train long s =
      let short : length (take n train) ≡ n = omega (arith, length-take n train) in
      ext_get_or 0 (take n train) loaded (short ∙ sym load_length)
      (λ j h. let l : j < n = omega (arith, h, short) in get_or-take n train j 0 l ∙ settled_same n q release capacity latest train loaded s load_settles j l)

  -- THE LOADING IS GREEDY
  pub load_greedy : ((j : ℕ) → j < n → at latest j ≤ q) → Greedy n capacity release latest loaded
  load_greedy upto =
      let s = load_settles in
      record {
        keeps = s.keeps;
        room = λ i p. fits i p (decided (decides_le i q));
        full = λ j i l p k. omega (arith, (s.settled i (omega arith) (omega (arith, upto j l))).full j l (p, k));
        led = λ j i x lj lx p k e. ((s.settled i (omega arith) (omega (arith, upto j lj))).beaten x j lx lj e (p, k)).no_later;
      }
    where
      fits : (i : ℕ) → 1 ≤ i → (i ≤ q) ⊎ (¬ (i ≤ q)) → count (on loaded i) n ≤ capacity i
      fits i p (inl l) = (load_settles.settled i p l).room
      fits i p (inr l) = omega (arith, count_none (decides_on loaded i) n (λ j lj e. omega (arith, load_settles.upto j lj)))
