-- Laws of an area whose front is front and whose rest is as found. Assumes nothing.
use Rattle.std.specs.Prelude.{◌≡◌, refl, List, [], ◌∷◌, ◌++◌, ℕ, zero, suc, ◌+◌, ◌≤◌, ◌<◌, length, get_or, set, take, drop}
use Rattle.std.proofs.Common.{sym, ap, ◌∙◌, append_assoc, not-suc-le-zero, le_of_suc-le-suc, add-one, arith, length-append, length-take, take-suc}
use Rattle.std.proofs.Math.ListN.{get_or-append}
use Rattle.std.proofs.Math.Seq.{drop-nil}
use Rattle.numbers.specs.Over.{over}

-- ---- stores behind the front

store_next : {A : Type 0} (written found : List A) (v : A) → length written < length found
    → set (over written found) (length written) v ≡ over (written ++ (v ∷ [])) found
store_next written [] v h = absurd (not-suc-le-zero h)
store_next [] (y ∷ ys) v h = refl
store_next (x ∷ f) (y ∷ ys) v h = ap (λ l. x ∷ l) (store_next f ys v (le_of_suc-le-suc h))

pub store_behind : {A : Type 0} (written found : List A) (n : ℕ) (v : A) → length written ≡ n → n < length found
    → set (over written found) n v ≡ over (written ++ (v ∷ [])) found
store_behind written found n v e h = let k : length written < length found = omega arith in rw (sym e) (store_next written found v k)

pub store_two_behind : {A : Type 0} (written found : List A) (n : ℕ) (v w : A) → length written ≡ n → n + 1 < length found
    → set (set (over written found) n v) (n + 1) w ≡ over (written ++ (v ∷ w ∷ [])) found
store_two_behind written found n v w e h =
    let a : set (over written found) n v ≡ over (written ++ (v ∷ [])) found = store_behind written found n v e (omega arith) in
    let l : length (written ++ (v ∷ [])) ≡ n + 1 = simp length-append (omega arith) in
    rw a (store_behind (written ++ (v ∷ [])) found (n + 1) w l h ∙ ap (λ f. over f found) (append_assoc written (v ∷ []) (w ∷ [])))

pub store_three_behind : {A : Type 0} (written found : List A) (n : ℕ) (v w x : A) → length written ≡ n → n + 1 + 1 < length found
    → set (set (set (over written found) n v) (n + 1) w) (n + 1 + 1) x ≡ over (written ++ (v ∷ w ∷ x ∷ [])) found
store_three_behind written found n v w x e h =
    let a = store_two_behind written found n v w e (omega arith) in
    let l : length (written ++ (v ∷ w ∷ [])) ≡ n + 1 + 1 = simp length-append (omega arith) in
    rw a (store_behind (written ++ (v ∷ w ∷ [])) found (n + 1 + 1) x l h ∙ ap (λ f. over f found) (append_assoc written (v ∷ w ∷ []) (x ∷ [])))

-- ---- stores over the last two of the front

set_two : {A : Type 0} (written rest : List A) (a b v w : A)
    → set (set (written ++ (a ∷ b ∷ rest)) (length written) v) (suc (length written)) w ≡ written ++ (v ∷ w ∷ rest)
set_two [] rest a b v w = refl
set_two (x ∷ f) rest a b v w = ap (λ l. x ∷ l) (set_two f rest a b v w)

store_two_last : {A : Type 0} (written found : List A) (a b v w : A)
    → set (set (over (written ++ (a ∷ b ∷ [])) found) (length written) v) (suc (length written)) w ≡ over (written ++ (v ∷ w ∷ [])) found
store_two_last {A} written found a b v w =
    let e : length (written ++ (a ∷ b ∷ [])) ≡ length (written ++ (v ∷ w ∷ [])) = simp length-append in
    let rest : List A = drop (length (written ++ (a ∷ b ∷ []))) found in
    ap (λ (l : List A). set (set l (length written) v) (suc (length written)) w) (append_assoc written (a ∷ b ∷ []) rest)
    ∙ set_two written rest a b v w
    ∙ sym (append_assoc written (v ∷ w ∷ []) rest)
    ∙ ap (λ (m : ℕ). (written ++ (v ∷ w ∷ [])) ++ drop m found) e

pub store_two_over : {A : Type 0} (written found : List A) (n : ℕ) (a b v w : A) → length written ≡ n
    → set (set (over (written ++ (a ∷ b ∷ [])) found) n v) (n + 1) w ≡ over (written ++ (v ∷ w ∷ [])) found
store_two_over written found n a b v w e = rw (add-one, sym e) (store_two_last written found a b v w)

-- ---- one front over another

drop_over : {A : Type 0} (f found : List A) (m : ℕ) → length f ≤ m → drop m (over f found) ≡ drop m found
drop_over [] found m h = refl
drop_over (x ∷ f) found zero h = absurd (not-suc-le-zero h)
drop_over (x ∷ f) [] (suc m) h = (rw (drop-nil (length f)) at (drop_over f [] m (le_of_suc-le-suc h))) ∙ drop-nil m
drop_over (x ∷ f) (y ∷ ys) (suc m) h = drop_over f ys m (le_of_suc-le-suc h)

-- over a front that is no longer
pub over_over : {A : Type 0} (written f found : List A) → length f ≤ length written → over written (over f found) ≡ over written found
over_over written f found h = ap (λ l. written ++ l) (drop_over f found (length written) h)

-- one turn of a loop that copies a list to the front of an area
pub copy_next : (l found : List ℕ) (j : ℕ) → j < length l → j < length found
    → set (over (take j l) found) j (get_or l j 0) ≡ over (take (j + 1) l) found
copy_next l found j h k =
    let e : length (take j l) ≡ j = simp length-take (omega arith) in
    let more : take (j + 1) l ≡ take j l ++ (get_or l j 0 ∷ []) = rw add-one (take-suc l j 0 h) in
    store_behind (take j l) found j (get_or l j 0) e (omega arith) ∙ ap (λ (f : List ℕ). over f found) (sym more)

-- ---- what is read

-- an element of the front is as front
pub over_at : {A : Type 0} (written found : List A) (d : A) (k : ℕ) → k < length written → get_or (over written found) k d ≡ get_or written k d
over_at written found d k l = get_or-append written (drop (length written) found) d k l
