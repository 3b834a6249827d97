-- THE KEY LEMMA. Under a greedy loading each order is released no later than the departure of its train in any schedule that keeps to the same
-- latest trains; and every order is loaded. It asks for no more than "at most k_i orders", so trains may run short. Assumes nothing.
use Rattle.std.specs.Prelude.{◌≡◌, ◌⊎◌, Bool, ◌&&◌, List, ltb}
use Rattle.std.proofs.Math.Logic.{inl, inr}
use Prim.Native.Nat.{ℕ, zero, suc, ◌+◌, ◌-◌, ◌≤◌, ◌<◌}
use native.Mathlib.Omega.{arith}
use Rattle.std.proofs.Math.Nat.{add-zero, add-suc}
use Rattle.std.proofs.Common.{add-sub_of_le}
use Rattle.std.proofs.Math.Dec.{leb}
use Rattle.numbers.specs.Counting.{at, count}
use Rattle.numbers.specs.DecidesLaws.{Decides, decides_le, decides_lt, decides_eq, decides_and, decided}
use Rattle.numbers.specs.CountingLaws.{count_mono, count_lt, count_disj, count_union, count_none, count_all, find}
use Rattle.model.specs.Sheet.{places}
use Rattle.rounds.specs.Riding.{on}
use Rattle.rounds.proofs.LoadingLaws.{decides_on}

-- What loading from the last train down ensures: if order j could have ridden train i and was left for an earlier one, then i is full, of orders
-- released no earlier than j. Train 0 is "not loaded".
pub record Greedy (n : ℕ) (capacity release : ℕ → ℕ) (latest train : List ℕ) : Type 0 where
  pub keeps : (j : ℕ) → j < n → at train j ≤ at latest j
  pub room : (i : ℕ) → 1 ≤ i → count (on train i) n ≤ capacity i
  pub full : (j i : ℕ) → j < n → at train j < i → i ≤ at latest j → capacity i ≤ count (on train i) n
  pub led : (j i k : ℕ) → j < n → k < n → at train j < i → i ≤ at latest j → at train k ≡ i → release j ≤ release k

-- ---- the kinds of orders that the proof counts

-- order j rides one of the trains i + 1 .. m
pub carried : List ℕ → ℕ → ℕ → ℕ → Bool
carried train i m j = ltb i (at train j) && leb (at train j) m

pub decides_carried : (train : List ℕ) (i m j : ℕ) → Decides ((i < at train j) × (at train j ≤ m)) (carried train i m j)
unfolding carried
decides_carried train i m j = decides_and (decides_lt i (at train j)) (decides_le (at train j) m)

module _ (release : ℕ → ℕ) (e : ℕ) where
  -- and is released at e or later
  carried_late : List ℕ → ℕ → ℕ → ℕ → Bool
  unfolding carried
  carried_late train i m j = carried train i m j && leb e (release j)

  decides_carried_late : (train : List ℕ) (i m j : ℕ) → Decides (((i < at train j) × (at train j ≤ m)) × (e ≤ release j)) (carried_late train i m j)
  unfolding carried_late
  decides_carried_late train i m j = decides_and (decides_carried train i m j) (decides_le e (release j))

  -- order j is released at e or later and can ride no later than train m
  bound_late : List ℕ → ℕ → ℕ → Bool
  bound_late latest m j = leb (at latest j) m && leb e (release j)

  decides_bound_late : (latest : List ℕ) (m j : ℕ) → Decides ((at latest j ≤ m) × (e ≤ release j)) (bound_late latest m j)
  unfolding bound_late
  decides_bound_late latest m j = decides_and (decides_le (at latest j) m) (decides_le e (release j))

  -- order j rides no later than train m, could have ridden later, and is released at e or later
  abbrev Left : (latest train : List ℕ) → ℕ → ℕ → Type 0
  Left latest train m j = ((at train j ≤ m) × (m < at latest j)) × (e ≤ release j)

  decides_left : (latest train : List ℕ) (m j : ℕ) → Decides (Left latest train m j) ((leb (at train j) m && ltb m (at latest j)) && leb e (release j))
  decides_left latest train m j = decides_and (decides_and (decides_le (at train j) m) (decides_lt m (at latest j))) (decides_le e (release j))

-- ---- order x on train i of a greedy loading, where too few orders released no earlier than x are bound to trains up to any m

module _ (n q : ℕ) (capacity release : ℕ → ℕ) (latest train : List ℕ) (g : Greedy n capacity release latest train)
    (upto : (j : ℕ) → j < n → at latest j ≤ q) (x : ℕ) (lx : x < n)
    (few : (m : ℕ) → at train x ≤ m → m ≤ q → places capacity (at train x) + count (bound_late release (release x) latest m) n ≤ places capacity m) where
  abbrev i : ℕ
  i = at train x

  abbrev late : ℕ
  late = release x

  -- trains i + 1 .. m are full of orders released no earlier than x
  Filled : ℕ → Type 0
  unfolding carried_late
  Filled m = places capacity m ≤ places capacity i + count (carried_late release late train i m) n

  -- so is the next train: else all of these and x itself are bound to trains up to m
  filled_next : (m : ℕ) → i ≤ m → m < q → Filled m → Filled (suc m)
  unfolding Filled places
  filled_next m l k f = go (find (decides_left release late latest train m) n)
    where
      none_left : ((j : ℕ) → j < n → ¬ Left release late latest train m j)
          → count (carried_late release late train i m) n < count (bound_late release late latest m) n
      none_left h =
          count_lt (decides_carried_late release late train i m) (decides_bound_late release late latest m) n x lx
          (let z : ¬ (m < at latest x) = λ u. h x lx ((omega arith, u), omega arith) in (omega arith, omega arith))
          (λ p. omega arith)
          (λ j lj p. let z : ¬ (m < at latest j) = λ u. h j lj ((omega arith, u), omega arith) in (omega arith, omega arith))

      one_left : (j : ℕ) → j < n → Left release late latest train m j
          → count (carried_late release late train i m) n + count (on train (suc m)) n ≤ count (carried_late release late train i (suc m)) n
      one_left j lj p =
          count_disj (decides_carried_late release late train i m) (decides_on train (suc m)) (decides_carried_late release late train i (suc m)) n
          (λ y ly u. omega arith)
          (λ y ly u. omega (arith, g.led j (suc m) y lj ly (omega arith) (omega arith) u))
          (λ y ly u v. omega arith)

      go : ((j : ℕ) × (j < n) × Left release late latest train m j) ⊎ ((j : ℕ) → j < n → ¬ Left release late latest train m j)
          → places capacity m + capacity (suc m) ≤ places capacity i + count (carried_late release late train i (suc m)) n
      go (inl (j, lj, p)) = omega (arith, one_left j lj p, g.full j (suc m) lj (omega arith) (omega arith))
      go (inr h) = absurd (omega (arith, none_left h, few m l (omega arith)))

  filled_up : (d : ℕ) → i + d ≤ q → Filled (i + d)
  unfolding Filled
  filled_up zero h = simp add-zero (omega arith)
  filled_up (suc d) h = simp add-suc (filled_next (i + d) (omega arith) (omega arith) (filled_up d (omega arith)))

  -- there is no such order: all of these and x itself are bound to trains up to q
  no_such_order : i ≤ q → ⊥
  unfolding Filled
  no_such_order h =
      omega (
        arith,
        few q h (omega arith),
        rw (add-sub_of_le h) at (filled_up (q - i) (omega arith)),
        count_lt (decides_carried_late release late train i q) (decides_bound_late release late latest q) n x lx
            (upto x lx, omega arith) (λ p. omega arith) (λ j lj p. (upto j lj, p.1)),
      )

-- ---- what any loading that fits the places can carry

module _ (n : ℕ) (capacity : ℕ → ℕ) (train : List ℕ) (room : (i : ℕ) → 1 ≤ i → count (on train i) n ≤ capacity i) where
  carries : (i d : ℕ) → places capacity i + count (carried train i (i + d)) n ≤ places capacity (i + d)
  unfolding places
  carries i zero = simp add-zero (omega (arith, count_none (decides_carried train i i) n (λ j l p. omega arith)))
  carries i (suc d) =
      simp add-suc
      (omega (
        arith,
        carries i d,
        room (suc (i + d)) (omega arith),
        count_union (decides_carried train i (i + d)) (decides_on train (suc (i + d))) (decides_carried train i (suc (i + d))) n
            (λ j l p. split (at train j) p (decided (decides_eq (at train j) (suc (i + d))))),
      ))
    where
      split : (v : ℕ) → (i < v) × (v ≤ suc (i + d)) → (v ≡ suc (i + d)) ⊎ (¬ (v ≡ suc (i + d))) → ((i < v) × (v ≤ i + d)) ⊎ (v ≡ suc (i + d))
      split v p (inl e) = inr e
      split v p (inr e) = inl (omega arith, omega arith)

  pub carries_upto : (i m : ℕ) → i ≤ m → places capacity i + count (carried train i m) n ≤ places capacity m
  carries_upto i m h = rw (add-sub_of_le h) at (carries i (m - i))

  module _ (loaded : (j : ℕ) → j < n → 1 ≤ at train j) where
    -- it keeps step 5's bound for any latest trains that it keeps to
    pub uncrowded : (latest : List ℕ) → ((j : ℕ) → j < n → at train j ≤ at latest j) → (m : ℕ) → count (λ j. leb (at latest j) m) n ≤ places capacity m
    unfolding places
    uncrowded latest keeps m =
        omega (
          arith,
          carries_upto 0 m (omega arith),
          count_mono (λ j. decides_le (at latest j) m) (decides_carried train 0 m) n (λ j l p. (loaded j l, omega (arith, keeps j l))),
        )

    -- and fills each train where there are no places to spare
    pub filled : (q : ℕ) → ((j : ℕ) → j < n → at train j ≤ q) → places capacity q ≡ n → (i : ℕ) → i < q → count (on train (suc i)) n ≡ capacity (suc i)
    unfolding places
    filled q upto e i l =
        omega (
          arith,
          room (suc i) (omega arith),
          carries_upto 0 i (omega arith),
          carries_upto (suc i) q l,
          count_all (decides_carried train 0 q) n (λ j lj. (loaded j lj, upto j lj)),
          count_union (decides_carried train 0 (suc i)) (decides_carried train (suc i) q) (decides_carried train 0 q) n
              (λ j lj p. above (at train j) p (decided (decides_le (at train j) (suc i)))),
          count_union (decides_carried train 0 i) (decides_on train (suc i)) (decides_carried train 0 (suc i)) n
              (λ j lj p. top (at train j) p (decided (decides_le (at train j) i))),
        )
      where
        above : (v : ℕ) → (0 < v) × (v ≤ q) → (v ≤ suc i) ⊎ (¬ (v ≤ suc i)) → ((0 < v) × (v ≤ suc i)) ⊎ ((suc i < v) × (v ≤ q))
        above v p (inl u) = inl (p.0, u)
        above v p (inr u) = inr (omega arith, p.1)

        top : (v : ℕ) → (0 < v) × (v ≤ suc i) → (v ≤ i) ⊎ (¬ (v ≤ i)) → ((0 < v) × (v ≤ i)) ⊎ (v ≡ suc i)
        top v p (inl u) = inl (p.0, u)
        top v p (inr u) = inr (omega arith)

-- ---- the key lemma

-- orders on trains that depart at S, each train with at most its capacity
pub record Rides (n q : ℕ) (capacity release : ℕ → ℕ) (train : List ℕ) (S : ℕ → ℕ) : Type 0 where
  pub on_a_train : (j : ℕ) → j < n → (1 ≤ at train j) × (at train j ≤ q)
  pub room : (i : ℕ) → 1 ≤ i → count (on train i) n ≤ capacity i
  pub released : (j : ℕ) → j < n → release j ≤ S (at train j)
  pub rising : (i j : ℕ) → 1 ≤ i → i ≤ j → j ≤ q → S i ≤ S j

module _ (n q : ℕ) (capacity release : ℕ → ℕ) (latest train : List ℕ) (g : Greedy n capacity release latest train)
    (upto : (j : ℕ) → j < n → at latest j ≤ q) where
  -- EACH ORDER IS RELEASED BY THE DEPARTURE OF ITS TRAIN IN ANY SCHEDULE THAT KEEPS TO THE LATEST TRAINS
  pub released_in_any : (other : List ℕ) (S : ℕ → ℕ) → Rides n q capacity release other S → ((j : ℕ) → j < n → at other j ≤ at latest j)
      → (x : ℕ) → x < n → 1 ≤ at train x → release x ≤ S (at train x)
  unfolding bound_late
  released_in_any other S w keeps x lx px = go (decided (decides_le (release x) (S (at train x))))
    where
      -- else every order released no earlier than x rides later there
      later : ¬ (release x ≤ S (at train x)) → (j : ℕ) → j < n → release x ≤ release j → at train x < at other j
      later h j lj k = up (decided (decides_lt (at train x) (at other j)))
        where
          up : (at train x < at other j) ⊎ (¬ (at train x < at other j)) → at train x < at other j
          up (inl z) = z
          up (inr z) =
              omega (
                arith,
                w.released j lj,
                w.rising (at other j) (at train x) (w.on_a_train j lj).0 (omega arith) (omega (arith, g.keeps x lx, upto x lx)),
              )

      few : ¬ (release x ≤ S (at train x)) → (m : ℕ) → at train x ≤ m → m ≤ q
          → places capacity (at train x) + count (bound_late release (release x) latest m) n ≤ places capacity m
      few h m l k =
          omega (
            arith,
            carries_upto n capacity other w.room (at train x) m l,
            count_mono (decides_bound_late release (release x) latest m) (decides_carried other (at train x) m) n
                (λ j lj p. (later h j lj p.1, omega (arith, keeps j lj))),
          )

      go : (release x ≤ S (at train x)) ⊎ (¬ (release x ≤ S (at train x))) → release x ≤ S (at train x)
      go (inl z) = z
      go (inr z) = absurd (no_such_order n q capacity release latest train g upto x lx (few z) (omega (arith, g.keeps x lx, upto x lx)))

  -- EVERY ORDER IS LOADED, where step 5 finds no crowd
  pub every_loaded : ((m : ℕ) → m ≤ q → count (λ j. leb (at latest j) m) n ≤ places capacity m) → (x : ℕ) → x < n → 1 ≤ at train x
  unfolding bound_late places
  every_loaded fits x lx = go (decided (decides_le 1 (at train x)))
    where
      go : (1 ≤ at train x) ⊎ (¬ (1 ≤ at train x)) → 1 ≤ at train x
      go (inl z) = z
      go (inr z) =
          absurd
          (no_such_order n q capacity release latest train g upto x lx
          (λ m l k. let e : at train x ≡ 0 = omega arith in
          rw e
          (omega (
            arith,
            fits m k,
            count_mono (decides_bound_late release (release x) latest m) (λ j. decides_le (at latest j) m) n (λ j lj p. p.0),
          )))
          (omega arith))
