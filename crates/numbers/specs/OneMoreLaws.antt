-- Lists with one more element at the end, and what holds of all their elements or of some. Assumes nothing.
use Rattle.std.specs.Prelude.{◌≡◌, ◌⊎◌, List, [], ◌∷◌, ◌++◌, ℕ, zero, suc, ◌+◌, ◌-◌, ◌<◌, length, get_or}
use Rattle.std.proofs.Common.{sym, ap, ◌∙◌, subst, inl, inr, arith, length-append}
use Rattle.std.proofs.Math.ListN.{get_or-append}
use Rattle.std.proofs.Math.Seq.{get_or-append_seam}
use Rattle.numbers.specs.DecidesLaws.{decides_lt, decided}

-- d is the element that stands past the end
module _ {A : Type 0} (d : A) where
  abbrev pub All : (A → Type 0) → List A → Type 0
  All P l = (k : ℕ) → k < length l → P (get_or l k d)

  abbrev pub Some : (A → Type 0) → List A → Type 0
  Some P l = (k : ℕ) × (k < length l) × P (get_or l k d)

  pub all_cons : (P : A → Type 0) (x : A) (l : List A) → P x → All P l → All P (x ∷ l)
  all_cons P x l z f zero u = z
  all_cons P x l z f (suc k) u = f k (omega arith)

module _ {A : Type 0} (d : A) (l : List A) (x : A) where
  abbrev pub more : List A
  more = l ++ (x ∷ [])

  pub more_length : length more ≡ length l + 1
  more_length = length-append l (x ∷ [])

  pub more_old : (k : ℕ) → k < length l → get_or more k d ≡ get_or l k d
  more_old k u = get_or-append l (x ∷ []) d k u

  pub more_new : get_or more (length l) d ≡ x
  more_new = get_or-append_seam l x [] d

  -- a place is an old one or the new one
  pub data Place (k : ℕ) : Type 0 where
    old : k < length l → get_or more k d ≡ get_or l k d → Place k
    new : k ≡ length l → get_or more k d ≡ x → Place k

  pub place : (k : ℕ) → k < length more → Place k
  place k u = go (decided (decides_lt k (length l)))
    where
      go : (k < length l) ⊎ (¬ (k < length l)) → Place k
      go (inl v) = old v (more_old k v)
      go (inr v) = let e : k ≡ length l = omega (arith, more_length) in new e (ap (λ (k : ℕ). get_or more k d) e ∙ more_new)

  module _ (P : A → Type 0) where
    pub all_more : All d P l → P x → All d P more
    all_more f z k u = go (place k u)
      where
        go : Place k → P (get_or more k d)
        go (old v e) = subst P (sym e) (f k v)
        go (new v e) = subst P (sym e) z

    pub all_new : All d P more → P x
    all_new f = subst P more_new (f (length l) (omega (arith, more_length)))

    pub some_old : Some d P l → Some d P more
    some_old (k, u, z) = (k, omega (arith, more_length), subst P (sym (more_old k u)) z)

    pub some_new : P x → Some d P more
    some_new z = (length l, omega (arith, more_length), subst P (sym more_new) z)

    pub some_split : Some d P more → Some d P l ⊎ P x
    some_split (k, u, z) = go (place k u)
      where
        go : Place k → Some d P l ⊎ P x
        go (old v e) = inl (k, v, subst P e z)
        go (new v e) = inr (subst P e z)
