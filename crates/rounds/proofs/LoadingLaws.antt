-- Laws of the loading: each pick is the greatest free order, and a train takes its k greatest. Assumes nothing.
use Rattle.std.specs.Prelude.{◌≡◌, refl, ◌⊎◌, Bool, cond, leb, eqb, set}
use Rattle.std.proofs.Common.{sym, ◌∙◌, length-set, get_or-set_same, get_or-set_other}
use Rattle.std.proofs.Math.Path.{ap}
use Rattle.std.proofs.Math.Logic.{inl, inr}
use Rattle.std.proofs.Math.Bool.{true, false}
use mathlib.Core.List.{List}
use Prim.Native.Nat.{ℕ, zero, suc, ◌+◌, ◌≤◌, ◌<◌}
use native.Mathlib.Omega.{arith}
use Rattle.std.proofs.Math.ListN.{length}
use Rattle.numbers.specs.Counting.{at, count}
use Rattle.numbers.specs.DecidesLaws.{Decides, decides_le, decides_eq, decides_and, decided, extend}
use Rattle.numbers.specs.CountingLaws.{count_lt, count_disj, count_union, count_point}
use Rattle.rounds.specs.Riding.{Below, on}
use Rattle.rounds.specs.Loading.{free, greater, pick, put, take_orders}

-- what `free` tests
abbrev pub Free : (latest train : List ℕ) → ℕ → ℕ → Type 0
Free latest train i j = (at train j ≡ 0) × (i ≤ at latest j)

pub decides_free : (latest train : List ℕ) (i j : ℕ) → Decides (Free latest train i j) (free latest train i j)
decides_free latest train i j = decides_and (decides_eq (at train j) 0) (decides_le i (at latest j))

-- ---- one pick

-- among the first m orders: none is free; or order j is free, and every other free one is below it
pub data Picked (release : ℕ → ℕ) (latest train : List ℕ) (i m : ℕ) : ℕ → Type 0 where
  none_free : ((k : ℕ) → k < m → ¬ Free latest train i k) → Picked release latest train i m 0
  greatest_free : (j : ℕ) → j < m → Free latest train i j → ((k : ℕ) → k < m → Free latest train i k → (k ≡ j) ⊎ Below release k j)
      → Picked release latest train i m (suc j)

module _ (release : ℕ → ℕ) (latest train : List ℕ) (i : ℕ) where
  greater_is : (m best : ℕ) → Picked release latest train i m best → (may : Bool) → Decides (Free latest train i m) may
      → Picked release latest train i (suc m) (greater release m best may)
  unfolding greater
  greater_is m best (none_free f) false d = none_free (extend m f (λ p. d.complete p))
  greater_is m best (greatest_free j l e f) false d = greatest_free j (omega arith) e (extend m f (λ p. absurd (d.complete p)))
  greater_is m best (none_free f) true d =
      greatest_free m (omega arith) (d.sound tt) (extend m (λ k l p. absurd (f k l p)) (λ p. inl refl))
  greater_is m best (greatest_free j l e f) true d = go (leb (release j) (release m)) (decides_le (release j) (release m))
    where
      over_j : release j ≤ release m → (k : ℕ) → k < m → (k ≡ j) ⊎ Below release k j → (k ≡ m) ⊎ Below release k m
      over_j w k lk (inl u) = inr (record { no_later = omega (arith, ap release u); tie = λ t. lk })
      over_j w k lk (inr u) = inr (record { no_later = omega (arith, u.no_later); tie = λ t. lk })

      go : (t : Bool) → Decides (release j ≤ release m) t → Picked release latest train i (suc m) (cond t (suc m) (suc j))
      go true w = greatest_free m (omega arith) (d.sound tt) (extend m (λ k lk p. over_j (w.sound tt) k lk (f k lk p)) (λ p. inl refl))
      go false w =
          let h : ¬ (release j ≤ release m) = λ z. w.complete z in
          greatest_free j (omega arith) e (extend m f (λ p. inr (record { no_later = omega arith; tie = λ t. omega arith })))

  -- THE PICK IS THE GREATEST (release, number) AMONG THOSE FREE
  pub pick_is : (m : ℕ) → Picked release latest train i m (pick release latest train i m)
  unfolding pick
  pick_is zero = none_free (λ k l p. omega arith)
  pick_is (suc m) = greater_is m (pick release latest train i m) (pick_is m) (free latest train i m) (decides_free latest train i m)

-- ---- one train

pub decides_on : (train : List ℕ) (i j : ℕ) → Decides (at train j ≡ i) (on train i j)
decides_on train i j = decides_eq (at train j) i

module _ (n : ℕ) (release : ℕ → ℕ) (latest : List ℕ) (i : ℕ) (pi : 1 ≤ i) where
  -- every order that is still free is below every order on train i
  abbrev pub Led : List ℕ → Type 0
  Led train = (j k : ℕ) → j < n → k < n → Free latest train i j → at train k ≡ i → Below release j k

  -- What k picks for train i come to
  pub record Took (k : ℕ) (before after : List ℕ) : Type 0 where
    pub size : length after ≡ length before
    pub moved : (j : ℕ) → j < n → (at after j ≡ at before j) ⊎ (Free latest before i j × (at after j ≡ i))
    pub led : (x y : ℕ) → x < n → y < n → Free latest after i x → at after y ≡ i → Below release x y
    pub room : count (on after i) n ≤ count (on before i) n + k
    pub full : (j : ℕ) → j < n → Free latest after i j → count (on before i) n + k ≤ count (on after i) n

  -- no order was free: a further pick changes nothing
  idle : (k : ℕ) (before after : List ℕ) → ((j : ℕ) → j < n → ¬ Free latest before i j) → Took k before after → Took (suc k) before after
  idle k before after f h =
      record {
        size = h.size;
        moved = h.moved;
        led = h.led;
        room = omega (arith, h.room);
        full = λ j l p. absurd (go j l p (h.moved j l));
      }
    where
      go : (j : ℕ) → j < n → Free latest after i j → (at after j ≡ at before j) ⊎ (Free latest before i j × (at after j ≡ i)) → ⊥
      go j l p (inl e) = f j l (sym e ∙ p.0, p.1)
      go j l p (inr e) = f j l e.0

  -- order j is put on train i
  module _ (before : List ℕ) (len : length before ≡ n) (j : ℕ) (l : j < n) (fr : Free latest before i j) where
    abbrev now : List ℕ
    now = set before j i

    data At (y : ℕ) : Type 0 where
      here : y ≡ j → at now y ≡ i → At y
      elsewhere : ¬ (y ≡ j) → at now y ≡ at before y → At y

    at_now : (y : ℕ) → At y
    at_now y = go (decided (decides_eq y j))
      where
        go : (y ≡ j) ⊎ (¬ (y ≡ j)) → At y
        go (inl u) = here u (rw u (get_or-set_same before j i 0 (omega arith)))
        go (inr u) = elsewhere u (get_or-set_other before j y i 0 u)

    one_more : count (on now i) n ≡ suc (count (on before i) n)
    one_more =
        omega (
          arith,
          count_point n j l,
          count_disj (λ y. decides_eq y j) (decides_on before i) (decides_on now i) n (λ y ly u. is y u (at_now y)) (λ y ly u. was y u (at_now y))
              (λ y ly u v. omega (arith, ap (at before) u)),
          count_union (λ y. decides_eq y j) (decides_on before i) (decides_on now i) n (λ y ly u. split y u (at_now y)),
        )
      where
        is : (y : ℕ) → y ≡ j → At y → at now y ≡ i
        is y u (here a b) = b
        is y u (elsewhere a b) = absurd (a u)

        was : (y : ℕ) → at before y ≡ i → At y → at now y ≡ i
        was y u (here a b) = b
        was y u (elsewhere a b) = b ∙ u

        split : (y : ℕ) → at now y ≡ i → At y → (y ≡ j) ⊎ (at before y ≡ i)
        split y u (here a b) = inl a
        split y u (elsewhere a b) = inr (sym b ∙ u)

    now_led : Led before → ((k : ℕ) → k < n → Free latest before i k → (k ≡ j) ⊎ Below release k j) → Led now
    now_led o f x y lx ly p e = go (at_now x) (at_now y)
      where
        first : ¬ (x ≡ j) → (x ≡ j) ⊎ Below release x j → Below release x j
        first u (inl v) = absurd (u v)
        first u (inr v) = v

        go : At x → At y → Below release x y
        go (here a b) w = absurd (omega (arith, p.0))
        go (elsewhere a b) (here c d) = rw c (first a (f x lx (sym b ∙ p.0, p.1)))
        go (elsewhere a b) (elsewhere c d) = o x y lx ly (sym b ∙ p.0, p.1) (sym d ∙ e)

    taken : (k : ℕ) (after : List ℕ) → Took k now after → Took (suc k) before after
    taken k after h =
        record {
          size = h.size ∙ length-set before j i;
          moved = λ y ly. go y (h.moved y ly) (at_now y);
          led = h.led;
          room = omega (arith, h.room, one_more);
          full = λ y ly p. omega (arith, h.full y ly p, one_more);
        }
      where
        go : (y : ℕ) → (at after y ≡ at now y) ⊎ (Free latest now i y × (at after y ≡ i)) → At y
            → (at after y ≡ at before y) ⊎ (Free latest before i y × (at after y ≡ i))
        go y (inl u) (here a b) = inr (rw a fr, u ∙ b)
        go y (inl u) (elsewhere a b) = inl (u ∙ b)
        go y (inr u) (here a b) = absurd (omega (arith, u.0.0))
        go y (inr u) (elsewhere a b) = inr ((sym b ∙ u.0.0, u.0.1), u.1)

  -- A TRAIN TAKES THE k GREATEST: those free who stay behind are below those on it, and it is full while any is left
  pub take_orders_is : (k : ℕ) (train : List ℕ) → length train ≡ n → Led train → Took k train (take_orders n release latest i k train)
  unfolding take_orders put
  take_orders_is zero train len o =
      record { size = refl; moved = λ j l. inl refl; led = o; room = omega arith; full = λ j l p. omega arith }
  take_orders_is (suc k) train len o =
      go (pick release latest train i n) (pick_is release latest train i n) (λ t lt ot. take_orders_is k t lt ot)
    where
      go : (b : ℕ) → Picked release latest train i n b
          → ((t : List ℕ) → length t ≡ n → Led t → Took k t (take_orders n release latest i k t))
          → Took (suc k) train (take_orders n release latest i k (put train i b))
      go b (none_free f) ih = idle k train _ f (ih train len o)
      go b (greatest_free j l e f) ih = taken train len j l e k _ (ih (set train j i) (length-set train j i ∙ len) (now_led train len j l e o f))

  -- from trains none of which is i
  pub none_led : (train : List ℕ) → ((j : ℕ) → j < n → ¬ (at train j ≡ i)) → Led train
  none_led train f x y lx ly p e = absurd (f y ly e)

  -- document 02, No. 5: "a train with fewer permitted orders than places takes them all", and one with as many
  pub takes_all : (k : ℕ) (train : List ℕ) → length train ≡ n → ((j : ℕ) → j < n → ¬ (at train j ≡ i)) → count (free latest train i) n ≤ k
      → (j : ℕ) → j < n → Free latest train i j → at (take_orders n release latest i k train) j ≡ i
  takes_all k train len none few j l p = go (h.moved j l)
    where
      after : List ℕ
      after = take_orders n release latest i k train

      h : Took k train after
      h = take_orders_is k train len (none_led train none)

      -- who rides the train was free before
      was_free : (y : ℕ) → y < n → at after y ≡ i → (at after y ≡ at train y) ⊎ (Free latest train i y × (at after y ≡ i)) → Free latest train i y
      was_free y ly e (inl u) = absurd (none y ly (sym u ∙ e))
      was_free y ly e (inr u) = u.0

      -- an order that stays free leaves the train full, and is one more than it took
      go : (at after j ≡ at train j) ⊎ (Free latest train i j × (at after j ≡ i)) → at after j ≡ i
      go (inr u) = u.1
      go (inl u) =
          absurd
          (omega (
            arith,
            h.full j l (u ∙ p.0, p.1),
            count_lt (decides_on after i) (decides_free latest train i) n j l p (λ e. none j l (sym u ∙ e)) (λ y ly e. was_free y ly e (h.moved y ly)),
          ))
