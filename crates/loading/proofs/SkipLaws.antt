-- WHICH TRAINS NEED NO TURN, and what is known behind one that has had its turns. Assumes nothing.
use Rattle.std.specs.Prelude.{◌≡◌, ◌⊎◌, false, List, ℕ, ◌≤◌, ◌<◌}
use Rattle.std.proofs.Common.{ap, inl, inr, arith}
use Rattle.numbers.specs.Counting.{at, count}
use Rattle.numbers.specs.DecidesLaws.{Decides, decides_le, decides_lt, decides_eq, decides_and, decides_or, decided, test_fails}
use Rattle.rounds.specs.Riding.{Below, on}
use Rattle.rounds.proofs.LoadingLaws.{decides_on}
use Rattle.rounds.specs.Settled.{Could, SettledAt}
use Rattle.riders.specs.Standing.{standing, best, waited}
use Rattle.riders.proofs.StandingLaws.{standing_below, decides_could, greatest_above}
use Rattle.riders.specs.Riders.{Counted}
use Rattle.loading.specs.Stage.{Stage, Known, Unmoved}
use Rattle.riders.proofs.CountedLaws.{rides_one}
use Rattle.loading.specs.Turns.{needed}

decides_needed : (waiting riders places held low top challenger i : ℕ)
    → Decides (((riders < places) × (held ≡ places)) ⊎ (((1 ≤ waiting) × (i ≤ top)) × ((riders < places) ⊎ (low < challenger))))
    (needed waiting riders places held low top challenger i)
decides_needed waiting riders places held low top challenger i =
    decides_or (decides_and (decides_lt _ _) (decides_eq _ _))
    (decides_and (decides_and (decides_lt 0 waiting) (decides_le _ _)) (decides_or (decides_lt _ _) (decides_lt _ _)))

-- those without a train: the last train that they may ride, and the greatest standing among them
pub waits_found : (n : ℕ) (release : ℕ → ℕ) (latest train : List ℕ) (top challenger : ℕ) → top ≡ waited latest train n → challenger
    ≡ best release latest train 1 n
    → (j : ℕ) → j < n → at train j ≡ 0 → 1 ≤ at latest j → (at latest j ≤ top) × (standing release j ≤ challenger)
waits_found n release latest train top challenger a b j l e p = (
  rw a (greatest_above (decides_on train 0) (at latest) n j l e),
  rw b (greatest_above (decides_could latest train 1) (standing release) n j l (omega arith, p)),
)

pub nobody_waits : (n : ℕ) (release : ℕ → ℕ) (latest train riders : List ℕ) → Counted n train riders → at riders 0 ≡ 0 → {top challenger : ℕ}
    → (j : ℕ) → j < n → at train j ≡ 0 → 1 ≤ at latest j → (at latest j ≤ top) × (standing release j ≤ challenger)
nobody_waits n release latest train riders c none j l e p = absurd (omega (arith, rw e at (rides_one n train riders c j l (omega arith))))

module _ (n : ℕ) (release capacity : ℕ → ℕ) (latest held low : List ℕ) (top challenger : ℕ) where
  -- what is known stays known, one train further down
  pub known_next : (i : ℕ) (before after : List ℕ) (t c : ℕ) → Unmoved n i before after → Known n release capacity latest held low top challenger i before
      → ((j : ℕ) → j < n → at after j ≡ 0 → 1 ≤ at latest j → (at latest j ≤ t) × (standing release j ≤ c))
      → (m : ℕ) → m < i → Known n release capacity latest held low t c m after
  known_next i before after t c same k waits m l =
      record {
        lows = λ x lx p h. rw (same x lx p (omega arith)) (k.lows x lx (omega (arith, same x lx p (omega arith))) (omega (arith, same x lx p (omega arith))));
        full = λ y r ly p h d.
            let e = same y ly p (omega (arith, d.0)) in
            k.full y r ly (omega arith) (omega arith) (omega (arith, d.0), d.1);
        waits = waits;
      }

  module _ (few : n ≤ 200) (i : ℕ) (pi : 1 ≤ i) (qi : i ≤ 32) (train riders : List ℕ) (counted : Counted n train riders)
      (s : Stage n release capacity latest i train) (k : Known n release capacity latest held low top challenger i train) where
    -- A TRAIN THAT LOST NOBODY, OR WAS NOT FULL, AND THAT NOBODY WITHOUT A TRAIN MAY ENTER, IS SETTLED
    pub skip_settled : needed (at riders 0) (at riders i) (capacity i) (at held i) (at low i) top challenger i ≡ false
        → SettledAt n release (capacity i) latest train i
    skip_settled passed =
        record {
          room = s.room i pi qi;
          beaten = λ x y lx ly e c. under x y lx ly e c (decided (decides_eq (at train y) 0));
          full = λ y ly c. filled y ly c (decided (decides_eq (at train y) 0)) (decided (decides_lt (at riders i) (capacity i)));
        }
      where
        full_lost : ¬ ((at riders i < capacity i) × (at held i ≡ capacity i))
        full_lost h = test_fails (decides_needed (at riders 0) (at riders i) (capacity i) (at held i) (at low i) top challenger i) passed (inl h)

        -- of one without a train who could come
        bounds : (y : ℕ) → y < n → at train y ≡ 0 → Could latest train i y → (at latest y ≤ top) × (standing release y ≤ challenger)
        bounds y ly none c = k.waits y ly none (omega (arith, c.1))

        shut_out : (y : ℕ) → y < n → at train y ≡ 0 → Could latest train i y → ¬ ((at riders i < capacity i) ⊎ (at low i < challenger))
        shut_out y ly none c h =
            test_fails (decides_needed (at riders 0) (at riders i) (capacity i) (at held i) (at low i) top challenger i) passed
            (inr ((rw none at (rides_one n train riders counted y ly (omega arith)), omega (arith, (bounds y ly none c).0, c.1)), h))

        under : (x y : ℕ) → x < n → y < n → at train x ≡ i → Could latest train i y → (at train y ≡ 0) ⊎ (¬ (at train y ≡ 0)) → Below release y x
        under x y lx ly e c (inl u) =
            let closed : ¬ (at low i < challenger) = λ h. shut_out y ly u c (inr h) in
            standing_below release y x (omega arith) (omega arith) (λ z. omega (arith, c.0, ap (at train) z))
            (omega (arith, (bounds y ly u c).1, rw e at (k.lows x lx (omega arith) (omega arith))))
        under x y lx ly e c (inr u) = s.beaten x y lx ly (omega arith) (omega arith) (rw e c)

        filled : (y : ℕ) → y < n → Could latest train i y → (at train y ≡ 0) ⊎ (¬ (at train y ≡ 0))
            → (at riders i < capacity i) ⊎ (¬ (at riders i < capacity i)) → count (on train i) n ≡ capacity i
        filled y ly c a (inr h) = omega (arith, counted.counted i qi, s.room i pi qi)
        filled y ly c (inl u) (inl h) = absurd (shut_out y ly u c (inl h))
        filled y ly c (inr u) (inl h) = absurd (full_lost (h, k.full y i ly (omega arith) (omega arith) c))
