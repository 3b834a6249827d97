-- Laws of listing a pair and of writing a plan. Assumes nothing.
use Rattle.std.specs.Prelude.{◌≡◌, refl, ◌⊎◌, List, [], ◌∷◌, ◌++◌, ℤ, pos, length, set, take, drop}
use Rattle.std.proofs.Common.{sym, ap, ◌∙◌, subst, inl, inr, add-one, length-append, length-drop, eq-eqb, ne_eqb}
use Prim.Native.Nat.{ℕ, zero, suc, ◌+◌, ◌*◌, ◌-◌, ◌≤◌, ◌<◌}
use native.Mathlib.Omega.{arith}
use Rattle.std.proofs.Math.Seq.{get_or-take}
use Rattle.numbers.specs.Counting.{at}
use Rattle.numbers.specs.DecidesLaws.{decided, decides_eq}
use Rattle.numbers.specs.Over.{over}
use Rattle.numbers.specs.OverLaws.{store_two_behind, store_three_behind, store_two_over}
use Rattle.model.specs.Limits.{numbers_a_pair, numbers_a_train}
use Rattle.model.specs.Lateness.{Pair}
use Rattle.rounds.specs.Recording.{Entry, record_entry, listed, recorded_arrival}
use Rattle.rounds.proofs.RecordingLaws.{FromEnd, nothing, behind, from_end, record_same, record_other}
use Rattle.rounds.proofs.RecordingLaws.{listed_behind, listed_length, last_behind, arrival_recorded}
use Rattle.rounds.specs.Areas.{pair_numbers, time_numbers}
use Rattle.rounds.proofs.AreaLaws.{pair_numbers_length, pair_numbers_behind, time_numbers_length}
use Rattle.recording.specs.Recorded.{place, held_list, Lists, ListsMore}

-- ---- the place of the next pair

pub place_same : (k last arrival : ℕ) → 0 < k → last ≡ arrival → k - 1 ≡ place k last arrival
unfolding place
place_same zero last arrival h e = absurd (omega arith)
place_same (suc k) last arrival h e = simp (eq-eqb last arrival e) (omega arith)

pub place_behind : (k last arrival : ℕ) → ¬ ((0 < k) × (last ≡ arrival)) → k ≡ place k last arrival
unfolding place
place_behind zero last arrival h = refl
place_behind (suc k) last arrival h = simp (ne_eqb last arrival (λ e. h (omega arith, e)))

-- ---- the pairs area once the pair p is written in its place

-- the pair written at place k of an area
abbrev written : Pair → ℕ → List ℤ → List ℤ
written p k area = set (set area (numbers_a_pair * k) (pos p.last)) (numbers_a_pair * k + 1) p.worst

module _ (p : Pair) (found : List ℤ) where
  module _ (ps : List Pair) (k : ℕ) (e : length ps ≡ k) where
    -- behind k others
    pair_added : numbers_a_pair * k + 1 < length found → written p k (over (pair_numbers ps) found) ≡ over (pair_numbers (ps ++ (p ∷ []))) found
    pair_added h =
        store_two_behind (pair_numbers ps) found (numbers_a_pair * k) (pos p.last) p.worst (omega (arith, pair_numbers_length ps)) h
        ∙ ap (λ f. over f found) (sym (pair_numbers_behind ps p))

    -- in place of the one behind k others
    pair_replaced : (p₀ : Pair) → written p k (over (pair_numbers (ps ++ (p₀ ∷ []))) found) ≡ over (pair_numbers (ps ++ (p ∷ []))) found
    pair_replaced p₀ =
        rw (pair_numbers_behind ps p₀, pair_numbers_behind ps p)
        (store_two_over (pair_numbers ps) found (numbers_a_pair * k) (pos p₀.last) p₀.worst (pos p.last) p.worst
        (omega (arith, pair_numbers_length ps)))

  record Written (k : ℕ) (area : List ℤ) (entries : List Entry) : Type 0 where
    pub area_is : written p k area ≡ over (pair_numbers (listed entries)) found
    pub count_is : k + 1 ≡ length entries

  -- over the last entry, or behind it
  module _ (e : Entry) (is : e.pair ≡ p) where
    again : (before : List Entry) (e₀ : Entry) → Written (length before) (over (pair_numbers (listed (before ++ (e₀ ∷ [])))) found) (before ++ (e ∷ []))
    again before e₀ =
        record {
          area_is = rw (listed_behind before e₀, listed_behind before e, is) (pair_replaced (listed before) (length before) (listed_length before) e₀.pair);
          count_is = simp length-append;
        }

    after : (entries : List Entry) → numbers_a_pair * length entries + 1 < length found
        → Written (length entries) (over (pair_numbers (listed entries)) found) (entries ++ (e ∷ []))
    after entries room =
        record {
          area_is = rw (listed_behind entries e, is) (pair_added (listed entries) (length entries) (listed_length entries) room);
          count_is = simp length-append;
        }

-- the room behind the list, of the area as found
room_found : (found : List ℤ) (entries : List Entry) (k : ℕ) → k ≡ length entries → numbers_a_pair * k + 1 < length (over (pair_numbers (listed entries)) found)
    → numbers_a_pair * k + 1 < length found
room_found found entries k e h =
    let ps = pair_numbers (listed entries) in
    omega (arith, h, pair_numbers_length (listed entries), listed_length entries, length-append ps (drop (length ps) found), length-drop (length ps) found)

-- THE LIST WITH ONE MORE PAIR
pub lists_more : (count last arrival : ℕ) (worst : ℤ) (area : List ℤ) → numbers_a_pair * count + 1 < length area
    → (k : ℕ) → k ≡ place count last arrival → (area' : List ℤ) → area' ≡ written (record { last = arrival; worst = worst }) k area
    → ListsMore (held_list count last area) (held_list (k + 1) arrival area') arrival worst
unfolding record_entry
lists_more count last arrival worst area room k at_place area' is_written found entries e is l =
    go entries (from_end entries) l.count_is l.last_is l.area_is
  where
    p : Pair
    p = record { last = arrival; worst = worst }

    after_recording : (entries : List Entry) → Written p found k area (record_entry entries e)
        → Lists found (held_list (k + 1) arrival area') (record_entry entries e)
    after_recording entries w =
        record {
          count_is = w.count_is;
          last_is = sym (arrival_recorded entries e ∙ ap (λ (x : Pair). x.last) is);
          area_is = is_written ∙ w.area_is;
        }

    -- where the pair stands, and what the area was
    placed : {area₀ : List ℤ} {after : List Entry} {m : ℕ} → k ≡ m → area ≡ area₀ → Written p found m area₀ after → Written p found k area after
    placed {area₀} {after} {m} u h w =
        subst (λ (v : ℕ). Written p found v area after) (sym u) (subst (λ (x : List ℤ). Written p found m x after) (sym h) w)

    go : (entries : List Entry) → FromEnd entries → count ≡ length entries → last ≡ recorded_arrival entries → area ≡ over (pair_numbers (listed entries)) found
        → Lists found (held_list (k + 1) arrival area') (record_entry entries e)
    go entries nothing c t h =
        let z : k ≡ length entries = at_place ∙ sym (place_behind count last arrival (λ h. omega (arith, c, h.0))) ∙ c in
        after_recording [] (placed z h (after p found e is [] (omega (arith, c, room_found found [] count c (rw h at room)))))
    go entries (behind before e₀) c t h = split (decided (decides_eq last arrival))
      where
        all : List Entry
        all = before ++ (e₀ ∷ [])

        some : 0 < count
        some = omega (arith, c, length-append before (e₀ ∷ []))

        last_arrived : e₀.pair.last ≡ last
        last_arrived = sym (t ∙ ap (λ (x : Entry). x.pair.last) (last_behind before e₀))

        arrived : e.pair.last ≡ arrival
        arrived = ap (λ (x : Pair). x.last) is

        split : (last ≡ arrival) ⊎ (¬ (last ≡ arrival)) → Lists found (held_list (k + 1) arrival area') (record_entry all e)
        split (inl u) =
            let here : k ≡ length before = omega (arith, at_place, place_same count last arrival some u, c, length-append before (e₀ ∷ [])) in
            let same : record_entry all e ≡ before ++ (e ∷ []) = record_same before e₀ e (last_arrived ∙ u ∙ sym arrived) in
            after_recording all (placed here h (rw same (again p found e is before e₀)))
        split (inr u) =
            let here : k ≡ length all = at_place ∙ sym (place_behind count last arrival (λ h. u h.1)) ∙ c in
            let other : record_entry all e ≡ all ++ (e ∷ []) = record_other before e₀ e (λ v. u (sym last_arrived ∙ v ∙ arrived)) in
            let space : numbers_a_pair * length all + 1 < length found = omega (arith, c, room_found found all count c (rw h at room)) in
            after_recording all (placed here h (rw other (after p found e is all space)))

-- ---- the times of a train

module _ (departure arrival window : List ℕ) (all : ℕ) where
  -- of the first i trains
  abbrev times : ℕ → List ℕ
  times i = time_numbers (take all departure) (take all arrival) (take all window) i

  -- behind those of the first i trains, in an area over `found`, those of train i + 1
  pub times_next : (found out : List ℕ) (i v : ℕ) → i < all → numbers_a_train * all ≤ length found → out ≡ over (times i) found → v ≡ at window i
      → set (set (set out (numbers_a_train * i) (at departure i)) (numbers_a_train * i + 1) (at arrival i)) (numbers_a_train * i + 2) v
      ≡ over (times (i + 1)) found
  unfolding time_numbers
  times_next found out i v few h is e =
      let b : suc i - 1 ≡ i = omega arith in
      let last : numbers_a_train * i + 2 ≡ numbers_a_train * i + 1 + 1 = omega arith in
      let long = time_numbers_length (take all departure) (take all arrival) (take all window) i in
      rw (is, e, last, add-one i, b, get_or-take all departure i 0 few, get_or-take all arrival i 0 few, get_or-take all window i 0 few)
      (store_three_behind (times i) found (numbers_a_train * i) (at departure i) (at arrival i) (at window i) long (omega arith))
