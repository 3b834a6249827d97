-- DOCUMENT 01: "All times are whole minutes .. in decimal." "Negative numbers have a leading `-`." Numbers as bytes.
use Rattle.std.specs.Prelude.{cond, List, [], ◌∷◌, ◌++◌, ℕ, zero, suc, ◌+◌, ◌/◌, ◌%◌, ltb, ℤ, pos, negsuc}

-- the byte of a digit: `0` is 48
abbrev pub digit : ℕ → ℕ
digit d = 48 + d

-- the digits of n, the first digit first, with at most `more` of them before the last
unfoldable pub digits : (more : ℕ) → ℕ → List ℕ
digits zero n = digit (n % 10) ∷ []
digits (suc more) n = cond (ltb n 10) (digit n ∷ []) (digits more (n / 10) ++ (digit (n % 10) ∷ []))

-- n has at most n digits before its last one
unfoldable pub decimal : ℕ → List ℕ
unfolding digits
decimal n = digits n n

-- "Negative numbers have a leading `-`" (45); `negsuc n` is −(n + 1)
unfoldable pub signed : ℤ → List ℕ
unfolding decimal
signed (pos n) = decimal n
signed (negsuc n) = 45 ∷ decimal (suc n)

-- a field behind its comma, 44
abbrev pub field : List ℕ → List ℕ
field bytes = (44 ∷ []) ++ bytes
