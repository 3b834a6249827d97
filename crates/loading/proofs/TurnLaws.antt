-- A TURN LETS IN THE GREATEST ORDER THAT COULD COME, where there is room or in place of the least; those who could come after it are all below it.
-- Assumes nothing.
use Rattle.std.specs.Prelude.{◌≡◌, refl, ◌⊎◌, Bool, true, false, List, ℕ, suc, ◌≤◌, ◌<◌, length, set}
use Rattle.std.proofs.Common.{sym, ap, ◌∙◌, inl, inr, arith, length-set}
use Rattle.numbers.specs.Counting.{at, count}
use Rattle.numbers.specs.DecidesLaws.{decides_lt, decides_eq, decided, one_outcome}
use Rattle.rounds.specs.Riding.{Below, on}
use Rattle.rounds.proofs.LoadingLaws.{decides_on}
use Rattle.rounds.specs.Settled.{Could, SettledAt}
use Rattle.riders.specs.Standing.{standing, place, beyond, best, least}
use Rattle.riders.proofs.StandingLaws.{standing_below, place_of, decides_could, greatest_above, greatest_is, least_is}
use Rattle.loading.specs.Turns.{Turn, none_comes, comes_in, holds_out, takes_over}
use Rattle.loading.specs.Stage.{Stage, Unmoved}
use Rattle.riders.proofs.CountedLaws.{AtSet, here, elsewhere, at_set, one_more}
use Rattle.loading.proofs.StageLaws.{rests_short, rests_full, stage_leaves, stage_comes}

module _ (n : ℕ) (release : ℕ → ℕ) (latest : List ℕ) (few : n ≤ 200) (i : ℕ) (train : List ℕ) where
  abbrev outside : ℕ
  outside = best release latest train i n

  abbrev inside : ℕ
  inside = least release train i n

  -- who comes
  pub record Comer : Type 0 where
    pub among : place outside < n
    pub could_come : Could latest train i (place outside)
    pub is : outside ≡ standing release (place outside)

  pub comer : 0 < outside → Comer
  comer some =
      let o = greatest_is (decides_could latest train i) (standing release) n some in
      let e : place outside ≡ o.which = ap place o.is ∙ place_of release o.which (omega (arith, o.among)) in
      record { among = omega (arith, o.among); could_come = rw e o.holds; is = rw e o.is }

  -- who leaves
  pub record Leaver : Type 0 where
    pub among : place inside < n
    pub rides : at train (place inside) ≡ i
    pub is : inside ≡ standing release (place inside)

  pub leaver : inside < beyond → Leaver
  leaver some =
      let o = least_is (decides_on train i) (standing release) n some in
      let e : place inside ≡ o.which = ap place o.is ∙ place_of release o.which (omega (arith, o.among)) in
      record { among = omega (arith, o.among); rides = rw e o.holds; is = rw e o.is }

  -- whoever could come besides is below
  others_below : (c : Comer) (y : ℕ) → y < n → Could latest train i y → (y ≡ place outside) ⊎ Below release y (place outside)
  others_below c y ly d = go (decided (decides_eq y (place outside)))
    where
      go : (y ≡ place outside) ⊎ (¬ (y ≡ place outside)) → (y ≡ place outside) ⊎ Below release y (place outside)
      go (inl u) = inl u
      go (inr u) =
          inr
          (standing_below release y (place outside) (omega arith) (omega (arith, c.among)) u
          (omega (arith, c.is, greatest_above (decides_could latest train i) (standing release) n y ly d)))

  -- what could come falls, where all who still could are below the comer
  falls : (after : List ℕ) → 0 < outside → ((y : ℕ) → y < n → Could latest after i y → standing release y < outside)
      → best release latest after i n < outside
  falls after some under = go (decided (decides_lt 0 (best release latest after i n)))
    where
      go : (0 < best release latest after i n) ⊎ (¬ (0 < best release latest after i n)) → best release latest after i n < outside
      go (inl l) = let o = greatest_is (decides_could latest after i) (standing release) n l in omega (arith, o.is, under o.which o.among o.holds)
      go (inr l) = omega arith

  -- one who could come, and is not the comer
  below_comer : (c : Comer) (y : ℕ) → y < n → ¬ (y ≡ place outside) → Could latest train i y → standing release y < outside
  below_comer c y ly u d = omega (arith, c.is, c.among, greatest_above (decides_could latest train i) (standing release) n y ly d)

  module _ (capacity : ℕ → ℕ) (pi : 1 ≤ i) (qi : i ≤ 32) (long : length train ≡ 200)
      (s : Stage n release capacity latest i train) (some : 0 < outside) where
    -- after the turn
    pub record Turned (after : List ℕ) : Type 0 where
      pub stage : Stage n release capacity latest i after
      pub unmoved : Unmoved n i train after
      pub fell : best release latest after i n < outside

    c : Comer
    c = comer some

    -- WHERE THERE IS ROOM
    pub comes : count (on train i) n < capacity i → Turned (set train (place outside) i)
    comes short =
        record {
          stage = stage_comes n release capacity latest few i pi qi train long s (place outside) c.among c.could_come short
              (λ y ly p d. others_below c y ly d);
          unmoved = λ j l p b. same j b (at_set train (place outside) i j (omega (arith, c.among)));
          fell = falls (set train (place outside) i) some (λ y ly d. under y ly d (at_set train (place outside) i y (omega (arith, c.among))));
        }
      where
        same : (j : ℕ) → at (set train (place outside) i) j < i → AtSet train (place outside) i j → at (set train (place outside) i) j ≡ at train j
        same j b (here u v) = absurd (omega arith)
        same j b (elsewhere u v) = v

        under : (y : ℕ) → y < n → Could latest (set train (place outside) i) i y → AtSet train (place outside) i y → standing release y < outside
        under y ly d (here u v) = absurd (omega (arith, d.0))
        under y ly d (elsewhere u v) = below_comer c y ly u (omega (arith, d.0), d.1)

    -- IN PLACE OF THE LEAST, whom it beats
    module _ (full : count (on train i) n ≡ capacity i) (beats : inside < outside) (low : inside < beyond) where
      w : Leaver
      w = leaver low

      abbrev left : List ℕ
      left = set train (place inside) 0

      apart : ¬ (place outside ≡ place inside)
      apart e = omega (arith, c.is, w.is, ap (standing release) e)

      at_left : (y : ℕ) → AtSet train (place inside) 0 y
      at_left y = at_set train (place inside) 0 y (omega (arith, w.among))

      same : (y : ℕ) → ¬ (y ≡ place inside) → at left y ≡ at train y
      same y u = go (at_left y)
        where
          go : AtSet train (place inside) 0 y → at left y ≡ at train y
          go (here a b) = absurd (u a)
          go (elsewhere a b) = b

      gone : at left (place inside) ≡ 0
      gone = go (at_left (place inside))
        where
          go : AtSet train (place inside) 0 (place inside) → at left (place inside) ≡ 0
          go (here a b) = b
          go (elsewhere a b) = absurd (a refl)

      fewer : count (on train i) n ≡ suc (count (on left i) n)
      fewer = one_more n i (place inside) left train w.among (λ e. omega (arith, gone)) w.rides (λ y u. sym (same y u))

      -- who could come to the train that one has left
      could_before : (y : ℕ) → ¬ (y ≡ place inside) → Could latest left i y → Could latest train i y
      could_before y u d = (omega (arith, same y u, d.0), d.1)

      pub still_comes : Could latest left i (place outside)
      still_comes = (omega (arith, same (place outside) apart, c.could_come.0), c.could_come.1)

      pub takes : Turned (set left (place outside) i)
      takes =
          record {
            stage = stage_comes n release capacity latest few i pi qi left (length-set train (place inside) 0 ∙ long)
                (stage_leaves n release capacity latest few i pi qi train long s (place inside) w.among w.rides)
                (place outside) c.among still_comes (omega (arith, fewer)) (λ y ly p d. others_below c y ly (could_before y (λ u. lost y p u) d));
            unmoved = λ j l p b. stays j p b (at_after j) (at_left j);
            fell = falls (set left (place outside) i) some (λ y ly d. under y ly d (at_after y) (decided (decides_eq y (place inside))));
          }
        where
          at_after : (y : ℕ) → AtSet left (place outside) i y
          at_after y = at_set left (place outside) i y (omega (arith, c.among, length-set train (place inside) 0))

          stays : (j : ℕ) → 1 ≤ at (set left (place outside) i) j → at (set left (place outside) i) j < i → AtSet left (place outside) i j
              → AtSet train (place inside) 0 j → at (set left (place outside) i) j ≡ at train j
          stays j p b (here u v) a = absurd (omega arith)
          stays j p b (elsewhere u v) (here a d) = absurd (omega arith)
          stays j p b (elsewhere u v) (elsewhere a d) = v ∙ d

          lost : (y : ℕ) → 1 ≤ at left y → y ≡ place inside → ⊥
          lost y p u = omega (arith, gone, ap (at left) u)

          under : (y : ℕ) → y < n → Could latest (set left (place outside) i) i y → AtSet left (place outside) i y
              → (y ≡ place inside) ⊎ (¬ (y ≡ place inside)) → standing release y < outside
          under y ly d (here u v) a = absurd (omega (arith, d.0))
          under y ly d (elsewhere u v) (inl a) = omega (arith, w.is, ap (standing release) a)
          under y ly d (elsewhere u v) (inr a) = below_comer c y ly u (omega (arith, d.0, same y a), d.1)

-- ---- the four ends of a turn

-- what could come stands below `beyond`
best_low : (n : ℕ) (release : ℕ → ℕ) (latest train : List ℕ) (i : ℕ) → n ≤ 200 → ((j : ℕ) → j < n → release j ≤ 100000)
    → best release latest train i n < beyond
best_low n release latest train i few releases = go (decided (decides_lt 0 (best release latest train i n)))
  where
    go : (0 < best release latest train i n) ⊎ (¬ (0 < best release latest train i n)) → best release latest train i n < beyond
    go (inl l) =
        let o = greatest_is (decides_could latest train i) (standing release) n l in
        omega (arith, o.is, o.among, releases o.which o.among)
    go (inr l) = omega arith

module _ (n : ℕ) (release : ℕ → ℕ) (latest : List ℕ) (few : n ≤ 200) (releases : (j : ℕ) → j < n → release j ≤ 100000) (i : ℕ) (train : List ℕ)
    (capacity : ℕ → ℕ) (pi : 1 ≤ i) (qi : i ≤ 32) (long : length train ≡ 200) (s : Stage n release capacity latest i train) (k : ℕ) (is : capacity i ≡ k) where
  -- an order came in, and whoever could come then stands lower
  pub record Moved (after : List ℕ) : Type 0 where
    pub stage : Stage n release capacity latest i after
    pub unmoved : Unmoved n i train after
    -- whoever has no train had none, or the train was full
    pub without : (j : ℕ) → j < n → at after j ≡ 0 → (at train j ≡ 0) ⊎ (k ≤ count (on train i) n)
    pub fell : best release latest after i n < best release latest train i n

  pub turn_moves : (after : List ℕ) (r : Bool) → Turn n release latest i k train after r → r ≡ true → Moved after
  turn_moves after r (none_comes a b) e = one_outcome e refl
  turn_moves after r (holds_out a b) e = one_outcome e refl
  turn_moves after r (comes_in a b) e =
      let t = comes n release latest few i train capacity pi qi long s b (omega arith) in
      let c = comer n release latest few i train b in
      record {
        stage = t.stage;
        unmoved = t.unmoved;
        without = λ j l u. inl (went j u (at_set train (place (best release latest train i n)) i j (omega (arith, c.among))));
        fell = t.fell;
      }
    where
      went : (j : ℕ) → at (set train (place (best release latest train i n)) i) j ≡ 0 → AtSet train (place (best release latest train i n)) i j → at train j ≡ 0
      went j u (here v w) = absurd (omega arith)
      went j u (elsewhere v w) = sym w ∙ u
  turn_moves after r (takes_over a b) e =
      let some : 0 < best release latest train i n = omega arith in
      let t = takes n release latest few i train capacity pi qi long s some (omega (arith, s.room i pi qi)) b
      (omega (arith, best_low n release latest train i few releases)) in
      record { stage = t.stage; unmoved = t.unmoved; without = λ j l u. inr a; fell = t.fell }

  -- OR NOTHING MOVED, AND THE TRAIN IS SETTLED
  pub turn_rests : (after : List ℕ) (r : Bool) → Turn n release latest i k train after r → r ≡ false
      → (after ≡ train) × SettledAt n release (capacity i) latest train i
  turn_rests after r (none_comes a b) e = (refl, rests_short n release capacity latest few i pi qi train long s b)
  turn_rests after r (holds_out a b) e = (refl, rests_full n release capacity latest few i pi qi train long s (omega (arith, s.room i pi qi)) b)
  turn_rests after r (comes_in a b) e = one_outcome refl e
  turn_rests after r (takes_over a b) e = one_outcome refl e
