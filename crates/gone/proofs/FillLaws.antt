-- A column that is filled from its front. Assumes nothing.
use Rattle.std.specs.Prelude.{◌≡◌, ◌⊎◌, cond, List, ◌++◌, ℕ, ◌+◌, ◌-◌, ◌≤◌, ◌<◌, ltb, length, set, take, drop}
use Rattle.std.proofs.Common.{sym, ◌∙◌, ap, inl, inr, arith, get_or-set_same, get_or-set_other, get_or-take, length-take-le}
use Rattle.std.proofs.lemmas.List.{get_or_append_left, get_or-append_right, get_or-drop}
use Rattle.numbers.specs.Counting.{at}
use Rattle.numbers.specs.DecidesLaws.{decides_lt, decides_eq, decided, cond_yes, cond_no}
use Rattle.gone.specs.GonePart.{Filled}

module _ (f g : ℕ → ℕ) where
  pub filled_none : (l : List ℕ) → ((k : ℕ) → at l k ≡ g k) → Filled f g 0 l
  filled_none l h k = h k ∙ sym (cond_no (decides_lt k 0) (λ u. omega arith) (f k) (g k))

  pub filled_here : (l : List ℕ) (n k : ℕ) → Filled f g n l → k < n → at l k ≡ f k
  filled_here l n k h u = h k ∙ cond_yes (decides_lt k n) u (f k) (g k)

  pub filled_rest : (l : List ℕ) (n k : ℕ) → Filled f g n l → ¬ (k < n) → at l k ≡ g k
  filled_rest l n k h u = h k ∙ cond_no (decides_lt k n) u (f k) (g k)

  pub filled_more : (l : List ℕ) (i v : ℕ) → Filled f g i l → i < length l → v ≡ f i → Filled f g (i + 1) (set l i v)
  filled_more l i v h few e k = go (decided (decides_eq k i))
    where
      go : (k ≡ i) ⊎ (¬ (k ≡ i)) → at (set l i v) k ≡ cond (ltb k (i + 1)) (f k) (g k)
      go (inl u) = rw u (get_or-set_same l i v 0 few ∙ e ∙ sym (cond_yes (decides_lt i (i + 1)) (omega arith) (f i) (g i)))
      go (inr u) = get_or-set_other l i k v 0 u ∙ rest (decided (decides_lt k i))
        where
          rest : (k < i) ⊎ (¬ (k < i)) → at l k ≡ cond (ltb k (i + 1)) (f k) (g k)
          rest (inl w) = filled_here l i k h w ∙ sym (cond_yes (decides_lt k (i + 1)) (omega arith) (f k) (g k))
          rest (inr w) = filled_rest l i k h w ∙ sym (cond_no (decides_lt k (i + 1)) (λ z. omega arith) (f k) (g k))

-- the first n elements of another column
pub filled_copied : (a b front : List ℕ) (n : ℕ) → n ≤ length a → front ≡ take n a → Filled (at a) (at b) n (front ++ drop n b)
filled_copied a b front n few e k = go (decided (decides_lt k n))
  where
    long : length front ≡ n
    long = ap (λ (l : List ℕ). length l) e ∙ length-take-le n a few

    go : (k < n) ⊎ (¬ (k < n)) → at (front ++ drop n b) k ≡ cond (ltb k n) (at a k) (at b k)
    go (inl u) =
        get_or_append_left front (drop n b) 0 k (omega (arith, long))
        ∙ ap (λ (l : List ℕ). at l k) e
        ∙ get_or-take n a k 0 u
        ∙ sym (cond_yes (decides_lt k n) u (at a k) (at b k))
    go (inr u) =
        let place : n + (k - n) ≡ k = omega arith in
        get_or-append_right front (drop n b) n k 0 long (omega arith)
        ∙ get_or-drop n b (k - n) 0
        ∙ ap (at b) place
        ∙ sym (cond_no (decides_lt k n) u (at a k) (at b k))
