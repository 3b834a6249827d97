-- Trains are orderly exactly where they pass the test. Assumes nothing.
use Rattle.std.specs.Prelude.{◌≡◌, refl, ◌⊎◌, Bool, true, false, cond, List, ℕ, ◌+◌, ◌-◌, ◌≤◌, ◌<◌, eqb, leb, length, set}
use Rattle.std.proofs.Common.{sym, ap, ◌∙◌, inl, inr, arith}
use Rattle.numbers.specs.Counting.{at, nth, count, every}
use Rattle.numbers.specs.DecidesLaws.{Decides, decides_le, decides_lt, decides_eq, decides_every}
use Rattle.numbers.specs.DecidesLaws.{decides_iff, decided, cond_yes}
use Rattle.rounds.specs.Riding.{Below, on}
use Rattle.rounds.proofs.LoadingLaws.{decides_on}
use Rattle.rounds.specs.Settled.{Could}
use Rattle.columns.specs.Columns.{UpTo}
use Rattle.loading.specs.Orderly.{Orderly}
use Rattle.riders.specs.Standing.{standing, beyond, least, Lowest}
use Rattle.riders.proofs.StandingLaws.{standing_below, below_standing, least_below, least_is}
use Rattle.riders.specs.Riders.{Counted}
use Rattle.riders.proofs.CountedLaws.{AtSet, here, elsewhere, at_set}
use Rattle.orderly.specs.Bars.{Room, bar, Barred, Skip, Skips, AllUnder}

module _ (n q : ℕ) (release capacity : ℕ → ℕ) (latest train riders low bars : List ℕ) (few : n ≤ 200) (few_trains : q ≤ 32)
    (releases : (j : ℕ) → j < n → release j ≤ 100000) (may : UpTo q n latest) (counts : Counted n train riders) (lows : Lowest n release train low)
    (barred : Barred q capacity riders low bars) where
  -- the bar of train i, which someone may ride who rides an earlier one
  bar_is : (i : ℕ) → 1 ≤ i → i ≤ q → at bars i ≡ cond (eqb (count (on train i) n) (capacity i)) (least release train i n) 0
  bar_is i p l =
      barred i p l
      ∙ ap (λ (m : ℕ). cond (eqb m (capacity i)) (at low i) 0) (counts.counted i (omega arith))
      ∙ ap (λ (m : ℕ). cond (eqb (count (on train i) n) (capacity i)) m 0) (lows i (omega arith))

  -- below the least on a train, where it is below all on it
  under_least : (y i : ℕ) → y < n → ((x : ℕ) → x < n → at train x ≡ i → Below release y x) → standing release y < least release train i n
  under_least y i ly beaten = go (decided (decides_lt (least release train i n) beyond))
    where
      go : (least release train i n < beyond) ⊎ (¬ (least release train i n < beyond)) → standing release y < least release train i n
      go (inl l) =
          let o = least_is (decides_on train i) (standing release) n l in
          omega (arith, o.is, below_standing release y o.which (omega arith) (omega (arith, o.among)) (beaten o.which o.among o.holds))
      go (inr l) = omega (arith, releases y ly)

  into : Orderly n q release capacity latest train → AllUnder n release latest train bars
  into o y ly p i l h =
      let c : Could latest train i y = (l, h) in
      let full = o.full y i ly p c in
      let least_bar = bar_is i (omega arith) (omega (arith, may y ly)) ∙ cond_yes (decides_eq (count (on train i) n) (capacity i)) full
      (least release train i n) 0 in
      omega (arith, least_bar, under_least y i ly (λ x lx e. o.beaten x y lx ly p (rw e c)))

  -- what a bar above something says
  over : (y i : ℕ) → 1 ≤ i → i ≤ q → y < at bars i → (count (on train i) n ≡ capacity i) × (y < least release train i n)
  over y i p l h = go (eqb (count (on train i) n) (capacity i)) (decides_eq (count (on train i) n) (capacity i)) (rw (bar_is i p l) at h)
    where
      go : (b : Bool) → Decides (count (on train i) n ≡ capacity i) b → y < cond b (least release train i n) 0
          → (count (on train i) n ≡ capacity i) × (y < least release train i n)
      go true d k = (d.sound tt, k)
      go false d k = absurd (omega arith)

  back : UpTo q n train → Room q capacity riders → AllUnder n release latest train bars → Orderly n q release capacity latest train
  back up room under =
      record {
        up_to = up;
        room = λ i p l. omega (arith, counts.counted i (omega arith), room i p l);
        beaten = λ x y lx ly p c.
            let (full, low_one) = over (standing release y) (at train x) (omega (arith, c.0)) (up x lx) (under y ly p (at train x) c.0 c.1) in
            standing_below release y x (omega arith) (omega arith) (λ e. omega (arith, c.0, ap (at train) e))
            (omega (arith, low_one, least_below (decides_on train (at train x)) (standing release) n x lx refl));
        full = λ y i ly p c.
            (over (standing release y) i (omega (arith, c.0)) (omega (arith, c.1, may y ly)) (under y ly p i c.0 c.1)).0;
      }

  -- where the trains are the sheet's and have room
  pub decides_orderly : UpTo q n train → Room q capacity riders → {b : Bool} → Decides (AllUnder n release latest train bars) b
      → Decides (Orderly n q release capacity latest train) b
  decides_orderly up room d = decides_iff (back up room) into d

-- ---- the test's loops

pub decides_room : (q : ℕ) (capacity riders : List ℕ) → Decides (Room q (nth capacity) riders) (every (λ m. leb (at riders (m + 1)) (at capacity m)) q)
decides_room q capacity riders =
    decides_iff (λ f i p l. rw (sub_add i p) at (f (i - 1) (omega arith))) (λ f m l. rw (add_sub m) at (f (m + 1) (omega arith) (omega arith)))
    (decides_every (λ m. decides_le (at riders (m + 1)) (at capacity m)) q)
  where
    sub_add : (i : ℕ) → 1 ≤ i → i - 1 + 1 ≡ i
    sub_add i p = omega arith

    add_sub : (m : ℕ) → m + 1 - 1 ≡ m
    add_sub m = omega arith

-- one train more
pub barred_more : (capacity : ℕ → ℕ) (riders low bars : List ℕ) (i v : ℕ) → length bars ≡ 33 → 1 ≤ i → i ≤ 32 → v ≡ bar capacity riders low i
    → (m : ℕ) → m ≤ i → Barred (i - 1) capacity riders low bars → Barred m capacity riders low (set bars i v)
barred_more capacity riders low bars i v long p few is m last h k l e = go (at_set bars i v k (omega arith))
  where
    go : AtSet bars i v k → at (set bars i v) k ≡ bar capacity riders low k
    go (here u w) = w ∙ is ∙ ap (bar capacity riders low) (sym u)
    go (elsewhere u w) = w ∙ h k l (omega arith)

-- ---- from one lower bar to the next

pub skip_first : (i q : ℕ) (bars : List ℕ) → i ≤ q → Skip i q bars (i + 1)
skip_first i q bars l = record { ahead = omega arith; most = omega arith; between = λ k a b. absurd (omega arith) }

-- one train further down
pub skips_more : (i q : ℕ) (bars next : List ℕ) (m : ℕ) → length next ≡ 33 → 1 ≤ i → i ≤ 32 → Skip i q bars m → Skips i q bars next
    → Skips (i - 1) q bars (set next i m)
skips_more i q bars next m long pi few s h k a b = go (at_set next i m k (omega arith))
  where
    go : AtSet next i m k → Skip k q bars (at (set next i m) k)
    go (here u v) = rw (v, u) s
    go (elsewhere u v) = rw v (h k (omega arith) b)
