-- THE WORDS FOR COUNTING that the definitions of every crate use.
-- Places count from 0, as elements stand in a list; numbers count from 1, as the paper numbers trains and windows.
use Rattle.std.specs.Prelude.{Bool, true, false, ◌&&◌, ◌||◌, cond, List, [], ◌∷◌, ◌++◌, ℕ, zero, suc, ◌+◌, ◌-◌, ℤ, get_or}
use Rattle.std.specs.Int.Signed.{lt_z, le_z}

-- the element at place j; 0 past the end
abbrev pub at : List ℕ → ℕ → ℕ
at l j = get_or l j 0

-- element number i, from 1; 0 past the end. `nth l 0` is the first element too, since 0 - 1 is 0
abbrev pub nth : List ℕ → ℕ → ℕ
nth l i = get_or l (i - 1) 0

-- f 0, .., f (n − 1)
unfoldable pub table : {A : Type 0} → (ℕ → A) → ℕ → List A
table f zero = []
table f (suc n) = table f n ++ (f n ∷ [])

-- f 1, .., f q
abbrev pub row : {A : Type 0} → (ℕ → A) → ℕ → List A
row f q = table (λ m. f (suc m)) q

abbrev pub one_if : Bool → ℕ
one_if true = 1
one_if false = 0

-- how many of the places 0 .. n − 1 pass a test
unfoldable pub count : (ℕ → Bool) → ℕ → ℕ
count p zero = 0
count p (suc n) = one_if (p n) + count p n

-- every place 0 .. n − 1 passes
unfoldable pub every : (ℕ → Bool) → ℕ → Bool
every p zero = true
every p (suc n) = p n && every p n

-- every number 1 .. q passes
abbrev pub each : (ℕ → Bool) → ℕ → Bool
each p q = every (λ m. p (suc m)) q

-- some place 0 .. n − 1 passes
unfoldable pub some : (ℕ → Bool) → ℕ → Bool
some p zero = false
some p (suc n) = p n || some p n

-- some number 1 .. q passes
abbrev pub any : (ℕ → Bool) → ℕ → Bool
any p q = some (λ m. p (suc m)) q

-- f 0 + … + f (n − 1)
unfoldable pub sum : (ℕ → ℕ) → ℕ → ℕ
sum f zero = 0
sum f (suc n) = sum f n + f n

-- f 1 + … + f q
abbrev pub total : (ℕ → ℕ) → ℕ → ℕ
total f q = sum (λ m. f (suc m)) q

abbrev pub larger : ℤ → ℤ → ℤ
larger a b = cond (lt_z a b) b a

-- the greatest of f 0, .., f m
unfoldable pub greatest : (ℕ → ℤ) → ℕ → ℤ
greatest f zero = f 0
greatest f (suc m) = larger (greatest f m) (f (suc m))

-- two signed numbers are the same: neither is above the other
abbrev pub same : ℤ → ℤ → Bool
same a b = le_z a b && le_z b a
