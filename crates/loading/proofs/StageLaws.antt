-- ONE TURN OF A TRAIN, and when it has settled. Assumes nothing.
use Rattle.std.specs.Prelude.{◌≡◌, refl, ◌⊎◌, ◌&&◌, ◌||◌, List, ℕ, suc, ◌-◌, ◌≤◌, ◌<◌, ltb, leb, length, set}
use Rattle.std.proofs.Common.{sym, ap, ◌∙◌, subst, inl, inr, arith}
use Rattle.numbers.specs.Counting.{at, count}
use Rattle.numbers.specs.DecidesLaws.{Decides, decides_le, decides_lt, decides_eq, decides_and, decides_or, decided}
use Rattle.numbers.specs.CountingLaws.{count_mono}
use Rattle.rounds.specs.Riding.{Below, on}
use Rattle.rounds.proofs.LoadingLaws.{decides_on}
use Rattle.rounds.specs.Settled.{Could, SettledAt}
use Rattle.rounds.proofs.SettledLaws.{settled_kept, settled_next}
use Rattle.riders.specs.Standing.{standing, best, least}
use Rattle.riders.proofs.StandingLaws.{standing_below, decides_could, greatest_above, least_below}
use Rattle.loading.specs.Stage.{Stage, Unmoved}
use Rattle.riders.proofs.CountedLaws.{AtSet, here, elsewhere, at_set, one_more}

-- the test for a further turn: the train is short, or one without a train may ride it
abbrev pub Wanted : (riders places waiting i top : ℕ) → Type 0
Wanted riders places waiting i top = (riders < places) ⊎ ((0 < waiting) × (i ≤ top))

pub decides_wanted : (riders places waiting i top : ℕ) → Decides (Wanted riders places waiting i top) (ltb riders places || (ltb 0 waiting && leb i top))
decides_wanted riders places waiting i top = decides_or (decides_lt riders places) (decides_and (decides_lt 0 waiting) (decides_le i top))

-- a train that is full is wanted by one who may ride it
pub wanted_full : (riders places waiting i top : ℕ) → Wanted riders places waiting i top → places ≤ riders → i ≤ top
wanted_full riders places waiting i top (inl short) full = absurd (omega arith)
wanted_full riders places waiting i top (inr (some, may)) full = may

-- and one that is not wanted is full, and nobody without a train may ride it
pub not_wanted : (riders places waiting i top : ℕ) → ¬ Wanted riders places waiting i top → (places ≤ riders) × ((0 < waiting) → top < i)
not_wanted riders places waiting i top f =
    let long : ¬ (riders < places) = λ h. f (inl h) in
    (omega arith, λ some. let high : ¬ (i ≤ top) = λ h. f (inr (some, h)) in omega arith)

-- one move after another
pub unmoved_then : (n i : ℕ) (first next last : List ℕ) → Unmoved n i first next → Unmoved n i next last → Unmoved n i first last
unmoved_then n i first next last f g j l p b = let e = g j l p b in e ∙ f j l (omega arith) (omega arith)

module _ (n : ℕ) (release capacity : ℕ → ℕ) (latest : List ℕ) where
  -- one train further down
  pub stage_next : (i : ℕ) (train : List ℕ) → Stage n release capacity latest (suc i) train
      → SettledAt n release (capacity (suc i)) latest train (suc i) → Stage n release capacity latest i train
  stage_next i train s z =
      record {
        above = settled_next n 32 release capacity latest i train s.above z;
        room = s.room;
        beaten = λ x y lx ly h. s.beaten x y lx ly (omega arith);
      }

  pub stage_done : (i : ℕ) → 1 ≤ i → (train : List ℕ) → Stage n release capacity latest i train → SettledAt n release (capacity i) latest train i
      → Stage n release capacity latest (i - 1) train
  stage_done i pi train s z =
      let e : i ≡ suc (i - 1) = omega arith in
      stage_next (i - 1) train (subst (λ (m : ℕ). Stage n release capacity latest m train) e s)
      (subst (λ (m : ℕ). SettledAt n release (capacity m) latest train m) e z)

  module _ (few : n ≤ 200) (i : ℕ) (pi : 1 ≤ i) (qi : i ≤ 32) (train : List ℕ) (long : length train ≡ 200)
      (s : Stage n release capacity latest i train) where
    abbrev outside : ℕ
    outside = best release latest train i n

    abbrev inside : ℕ
    inside = least release train i n

    -- ---- the train is settled

    -- there is room, and nobody could come
    pub rests_short : outside ≡ 0 → SettledAt n release (capacity i) latest train i
    rests_short none =
        record {
          room = s.room i pi qi;
          beaten = λ x y lx ly e c. absurd (omega (arith, greatest_above (decides_could latest train i) (standing release) n y ly c));
          full = λ y ly c. absurd (omega (arith, greatest_above (decides_could latest train i) (standing release) n y ly c));
        }

    -- it is full, and nobody who could come beats one on it
    pub rests_full : count (on train i) n ≡ capacity i → outside ≤ inside → SettledAt n release (capacity i) latest train i
    rests_full full under =
        record {
          room = s.room i pi qi;
          beaten = λ x y lx ly e c.
              standing_below release y x (omega arith) (omega arith) (λ u. omega (arith, c.0, ap (at train) u))
              (omega (
                arith,
                greatest_above (decides_could latest train i) (standing release) n y ly c,
                least_below (decides_on train i)
                    (standing release) n x lx e,
              ));
          full = λ y ly c. full;
        }

    -- it is full, and nobody without a train could come
    pub rests_idle : count (on train i) n ≡ capacity i → ((j : ℕ) → j < n → at train j ≡ 0 → at latest j < i)
        → SettledAt n release (capacity i) latest train i
    rests_idle full none =
        record {
          room = s.room i pi qi;
          beaten = λ x y lx ly e c. s.beaten x y lx ly (omega arith) (loaded y ly c (decided (decides_eq (at train y) 0))) (rw e c);
          full = λ y ly c. full;
        }
      where
        loaded : (y : ℕ) → y < n → Could latest train i y → (at train y ≡ 0) ⊎ (¬ (at train y ≡ 0)) → 1 ≤ at train y
        loaded y ly c (inl u) = absurd (omega (arith, none y ly u, c.1))
        loaded y ly c (inr u) = omega arith

    -- ---- an order leaves

    module _ (w : ℕ) (lw : w < n) (rides : at train w ≡ i) where
      abbrev left : List ℕ
      left = set train w 0

      at_left : (y : ℕ) → AtSet train w 0 y
      at_left y = at_set train w 0 y (omega arith)

      pub stage_leaves : Stage n release capacity latest i left
      stage_leaves =
          record {
            above =
                record {
                  upto = λ j l. upto j l (at_left j);
                  keeps = λ j l. keeps j l (at_left j);
                  settled = λ m l k. settled_kept n release (capacity m) latest m train left (λ j lj. kept m l j (at_left j)) (s.above.settled m l k);
                };
            room = λ m p l. omega (arith, s.room m p l, count_mono (decides_on left m) (decides_on train m) n (λ y ly e. was m p y e (at_left y)));
            beaten = λ x y lx ly h p c. beaten x y lx ly h p c (at_left x) (at_left y);
          }
        where
          upto : (j : ℕ) → j < n → AtSet train w 0 j → at left j ≤ 32
          upto j l (here u v) = omega arith
          upto j l (elsewhere u v) = omega (arith, s.above.upto j l)

          keeps : (j : ℕ) → j < n → AtSet train w 0 j → at left j ≤ at latest j
          keeps j l (here u v) = omega arith
          keeps j l (elsewhere u v) = omega (arith, s.above.keeps j l)

          kept : (m : ℕ) → i < m → (j : ℕ) → AtSet train w 0 j → (at left j ≡ at train j) ⊎ ((at train j < m) × (at left j < m))
          kept m l j (here u v) = inr (omega (arith, ap (at train) u), omega arith)
          kept m l j (elsewhere u v) = inl v

          was : (m : ℕ) → 1 ≤ m → (y : ℕ) → at left y ≡ m → AtSet train w 0 y → at train y ≡ m
          was m p y e (here u v) = absurd (omega arith)
          was m p y e (elsewhere u v) = sym v ∙ e

          beaten : (x y : ℕ) → x < n → y < n → at left x ≤ i → 1 ≤ at left y → Could latest left (at left x) y → AtSet train w 0 x → AtSet train w 0 y
              → Below release y x
          beaten x y lx ly h p c (here u v) b = absurd (omega (arith, c.0))
          beaten x y lx ly h p c (elsewhere u v) (here a b) = absurd (omega arith)
          beaten x y lx ly h p c (elsewhere u v) (elsewhere a b) =
              s.beaten x y lx ly (omega arith) (omega arith) (omega (arith, c.0), omega (arith, c.1))

    -- ---- an order comes in

    module _ (b : ℕ) (lb : b < n) (c : Could latest train i b) (short : count (on train i) n < capacity i)
        (highest : (y : ℕ) → y < n → 1 ≤ at train y → Could latest train i y → (y ≡ b) ⊎ Below release y b) where
      abbrev after : List ℕ
      after = set train b i

      at_after : (y : ℕ) → AtSet train b i y
      at_after y = at_set train b i y (omega arith)

      off : ¬ (at train b ≡ i)
      off e = omega (arith, c.0)

      came : count (on after i) n ≡ suc (count (on train i) n)
      came = one_more n i b train after lb off (is (at_after b)) (λ y u. other y u (at_after y))
        where
          is : AtSet train b i b → at after b ≡ i
          is (here u v) = v
          is (elsewhere u v) = absurd (u refl)

          other : (y : ℕ) → ¬ (y ≡ b) → AtSet train b i y → at after y ≡ at train y
          other y z (here u v) = absurd (z u)
          other y z (elsewhere u v) = v

      pub stage_comes : Stage n release capacity latest i after
      stage_comes =
          record {
            above =
                record {
                  upto = λ j l. upto j l (at_after j);
                  keeps = λ j l. keeps j l (at_after j);
                  settled = λ m l k. settled_kept n release (capacity m) latest m train after (λ j lj. kept m l j (at_after j)) (s.above.settled m l k);
                };
            room = λ m p l. room m p l (decided (decides_eq m i));
            beaten = λ x y lx ly h p d. beaten x y lx ly h p d (at_after x) (at_after y);
          }
        where
          upto : (j : ℕ) → j < n → AtSet train b i j → at after j ≤ 32
          upto j l (here u v) = omega arith
          upto j l (elsewhere u v) = omega (arith, s.above.upto j l)

          keeps : (j : ℕ) → j < n → AtSet train b i j → at after j ≤ at latest j
          keeps j l (here u v) = omega (arith, c.1, ap (at latest) u)
          keeps j l (elsewhere u v) = omega (arith, s.above.keeps j l)

          kept : (m : ℕ) → i < m → (j : ℕ) → AtSet train b i j → (at after j ≡ at train j) ⊎ ((at train j < m) × (at after j < m))
          kept m l j (here u v) = inr (omega (arith, c.0, ap (at train) u), omega arith)
          kept m l j (elsewhere u v) = inl v

          room : (m : ℕ) → 1 ≤ m → m ≤ 32 → (m ≡ i) ⊎ (¬ (m ≡ i)) → count (on after m) n ≤ capacity m
          room m p l (inl e) = rw e (omega (arith, came))
          room m p l (inr e) =
              omega (arith, s.room m p l, count_mono (decides_on after m) (decides_on train m) n (λ y ly z. was y z (at_after y)))
            where
              was : (y : ℕ) → at after y ≡ m → AtSet train b i y → at train y ≡ m
              was y z (here u v) = absurd (e (sym z ∙ v))
              was y z (elsewhere u v) = sym v ∙ z

          over : (y : ℕ) → ¬ (y ≡ b) → (y ≡ b) ⊎ Below release y b → Below release y b
          over y u (inl v) = absurd (u v)
          over y u (inr v) = v

          beaten : (x y : ℕ) → x < n → y < n → at after x ≤ i → 1 ≤ at after y → Could latest after (at after x) y → AtSet train b i x → AtSet train b i y
              → Below release y x
          beaten x y lx ly h p d u (here a e) = absurd (omega (arith, d.0))
          beaten x y lx ly h p d (here u v) (elsewhere a e) =
              rw u (over y a (highest y ly (omega arith) (omega (arith, d.0), omega (arith, d.1))))
          beaten x y lx ly h p d (elsewhere u v) (elsewhere a e) =
              s.beaten x y lx ly (omega arith) (omega arith) (omega (arith, d.0), omega (arith, d.1))
