-- Columns that grow by one element, row by row. Assumes nothing.
use Rattle.std.specs.Prelude.{◌≡◌, ◌⊎◌, List, ℕ, suc, ◌+◌, ◌-◌, ◌≤◌, ◌<◌, length, set}
use Rattle.std.proofs.Common.{inl, inr, arith, get_or-set_same, get_or-set_other}
use Rattle.numbers.specs.Counting.{at, nth}
use Rattle.numbers.specs.DecidesLaws.{decided, decides_eq}

-- R holds in each of the first n rows of two columns
abbrev pub Rows : (ℕ → ℕ → Type 0) → List ℕ → List ℕ → ℕ → Type 0
Rows R l m n = (j : ℕ) → j < n → R (at l j) (at m j)

-- R holds from each of the first n rows to the next
abbrev pub Steps : (ℕ → ℕ → Type 0) → List ℕ → List ℕ → ℕ → Type 0
Steps R l m n = (j : ℕ) → suc j < n → R (at l j) (at m (suc j))

-- P holds of the first n elements of a column
abbrev pub Column : (ℕ → Type 0) → List ℕ → ℕ → Type 0
Column P l n = (j : ℕ) → j < n → P (at l j)

module _ (R : ℕ → ℕ → Type 0) (l m : List ℕ) (n : ℕ) where
  module _ (v w : ℕ) (a : n < length l) (b : n < length m) where
    pub rows_more : Rows R l m n → R v w → Rows R (set l n v) (set m n w) (n + 1)
    rows_more h k j i = go (decided (decides_eq j n))
      where
        go : (j ≡ n) ⊎ (¬ (j ≡ n)) → R (at (set l n v) j) (at (set m n w) j)
        go (inl e) = rw (e, get_or-set_same l n v 0 a, get_or-set_same m n w 0 b) k
        go (inr e) = rw (get_or-set_other l n j v 0 e, get_or-set_other m n j w 0 e) (h j (omega arith))

    pub steps_more : Steps R l m n → (0 < n → R (nth l n) w) → Steps R (set l n v) (set m n w) (n + 1)
    steps_more h k j i = go (decided (decides_eq (suc j) n))
      where
        go : (suc j ≡ n) ⊎ (¬ (suc j ≡ n)) → R (at (set l n v) j) (at (set m n w) (suc j))
        go (inl e) =
            let last : j ≡ n - 1 = omega arith in
            rw (get_or-set_other l n j v 0 (λ z. omega arith), e, get_or-set_same m n w 0 b, last) (k (omega arith))
        go (inr e) = rw (get_or-set_other l n j v 0 (λ z. omega arith), get_or-set_other m n (suc j) w 0 e) (h j (omega arith))

  -- the same, by number
  pub rows_numbered : Rows R l m n → (i : ℕ) → 1 ≤ i → i ≤ n → R (nth l i) (nth m i)
  rows_numbered h i a b = h (i - 1) (omega arith)

  pub steps_numbered : Steps R l m n → (i : ℕ) → 1 ≤ i → i ≤ n - 1 → R (nth l i) (nth m (suc i))
  steps_numbered h i a b = let next : suc i - 1 ≡ suc (i - 1) = omega arith in rw next (h (i - 1) (omega arith))

module _ (P : ℕ → Type 0) (l : List ℕ) (n : ℕ) where
  pub column_more : (v : ℕ) → n < length l → Column P l n → P v → Column P (set l n v) (n + 1)
  column_more v a h k = rows_more (λ x same. P x) l l n v v a a h k

  pub column_numbered : Column P l n → (i : ℕ) → 1 ≤ i → i ≤ n → P (nth l i)
  column_numbered h i a b = h (i - 1) (omega arith)
