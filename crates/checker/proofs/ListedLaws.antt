-- THE PAIRS PASSED, one more at a time. Assumes nothing.
use Rattle.std.specs.Prelude.{◌≡◌, refl, Bool, false, eqb, ◌&&◌, ◌||◌, List, ℕ, ◌+◌, ◌*◌, ℤ, pos, get_or}
use Rattle.std.proofs.Common.{sym, ap, ◌∙◌, to_z, of_z, to_z-of_z, SFits, w64}
use Rattle.numbers.specs.Counting.{some, same}
use Rattle.numbers.specs.CountingLaws.{some_more}
use Rattle.numbers.specs.DecidesLaws.{decides_eq, decides_iff, same_test}
use Rattle.numbers.specs.SignedLaws.{decides_same}
use Rattle.model.specs.Limits.{numbers_a_pair}
use Rattle.checker.specs.Judging.{listed_in}

pub listed_start : (area : List ℤ) (last : ℕ) (worst : ℤ) → false ≡ listed_in area last worst 0
unfolding listed_in some
listed_start area last worst = refl

-- pair k, as it was read, beside what the pairs before it gave
pub listed_more : (area : List ℤ) (last : ℕ) (worst : ℤ) (k : ℕ) {arrival other late : ℤ} {listed : Bool} → arrival ≡ pos last
    → other ≡ get_or area (numbers_a_pair * k) (pos 0) → late ≡ get_or area (numbers_a_pair * k + 1) (pos 0) → listed ≡ listed_in area last worst k
    → ((same other arrival && same late worst) || listed) ≡ listed_in area last worst (k + 1)
unfolding listed_in
listed_more area last worst k a o l e = rw (a, o, l, e, some_more)

-- two numbers of 64 bits are the same where their bits are
pub same_bits : (x y : ℤ) → SFits w64 x → SFits w64 y → eqb (of_z w64 x) (of_z w64 y) ≡ same x y
same_bits x y f g =
    same_test _ _
    (decides_iff (λ e. sym (to_z-of_z f) ∙ ap (to_z w64) e ∙ to_z-of_z g) (λ e. ap (of_z w64) e) (decides_eq (of_z w64 x) (of_z w64 y)))
    (decides_same x y)
