-- How many bytes lines have at most, where every number of a plan is below 1,000,000,000 and a refusal's is one of 64 bits. Assumes nothing.
use Rattle.std.specs.Prelude.{◌≡◌, refl, Bool, true, false, List, [], ◌∷◌, ℕ, zero, suc, ◌+◌}
use Rattle.std.specs.Prelude.{◌*◌, ◌/◌, ◌%◌, ◌^◌, ◌≤◌, ◌<◌, ltb, ℤ, pos, negsuc, nat_abs, length, get_or}
use Rattle.std.proofs.Common.{pow-suc, arith, length-append, length-take, ltb-true, ltb-false}
use Rattle.model.specs.Limits.{numbers_a_pair, numbers_a_train}
use Rattle.model.specs.Refusal.{number, returned}
use Rattle.model.specs.declared.Refusal.{Refusal}
use Rattle.model.specs.declared.Refusal.TheVariants.{Malformed, OutOfRange, KindTooEarly, TooMany, KindMissing, OutOfOrder, TooFewPlaces, NoSchedule}
use Rattle.model.specs.declared.Refusal.TheVariants.{AreaTooShort, WishTooEarly, WrongRows, RuleBroken, GoneWrong}
use Rattle.fields.specs.NamePlaces.{NamesLie}
use Rattle.fields.proofs.NameLaws.{short_name, name_within}
use Rattle.fields.specs.declared.NamePlaces.{NamePlaces}
use Rattle.writing.specs.Decimal.{digit, decimal, signed}
use Rattle.writing.proofs.DecimalLaws.{decimal_one, decimal_more}
use Rattle.layout.specs.Lines.{pair_line, time_line, order_line, rounds_line, refusal_line, pair_lines, time_lines, order_lines, name_of}

-- ---- numbers

-- ten times the bound is one digit more
one_more : (b k : ℕ) → ((n : ℕ) → n < b → length (decimal n) ≤ k) → (n : ℕ) → n < 10 * b → length (decimal n) ≤ k + 1
one_more b k h n l = go (ltb n 10) refl
  where
    go : (t : Bool) → ltb n 10 ≡ t → length (decimal n) ≤ k + 1
    go true e = rw (decimal_one n (ltb-true n 10 e)) (omega arith)
    go false e =
        let u : 10 ≤ n = ltb-false n 10 e in
        rw (decimal_more n u) (omega (arith, length-append (decimal (n / 10)) (digit (n % 10) ∷ []), h (n / 10) (omega arith)))

one_digit : (n : ℕ) → n < 10 → length (decimal n) ≤ 1
one_digit n l = rw (decimal_one n l) (omega arith)

-- a number below 10 to the k has at most k digits
digits_up_to : (k n : ℕ) → n < 10 ^ suc k → length (decimal n) ≤ suc k
digits_up_to zero n l = one_digit n l
digits_up_to (suc k) n l = omega (arith, one_more (10 ^ suc k) (suc k) (digits_up_to k) n (omega (arith, pow-suc 10 (suc k))))

pub nine_digits : (n : ℕ) → n < 1000000000 → length (decimal n) ≤ 9
nine_digits n l = digits_up_to 8 n l

-- a number of 64 bits has at most 20
twenty_digits : (n : ℕ) → n < 2 ^ 64 → length (decimal n) ≤ 20
twenty_digits n l = digits_up_to 19 n (omega arith)

pub signed_short : (z : ℤ) → nat_abs z < 1000000000 → length (signed z) ≤ 10
unfolding signed
signed_short (pos n) l = omega (arith, nine_digits n l)
signed_short (negsuc n) l = omega (arith, nine_digits (suc n) l)

-- ---- lines

pub pair_line_short : (last worst : ℤ) → nat_abs last < 1000000000 → nat_abs worst < 1000000000 → length (pair_line last worst) ≤ 24
unfolding pair_line
pair_line_short last worst l w = simp length-append (omega (arith, signed_short last l, signed_short worst w))

pub time_line_short : (train departure arrival window : ℕ) → train < 1000000000 → departure < 1000000000 → arrival < 1000000000 → window < 1000000000
    → length (time_line train departure arrival window) ≤ 42
unfolding time_line
time_line_short train departure arrival window t d a w =
    simp length-append (omega (arith, nine_digits train t, nine_digits departure d, nine_digits arrival a, nine_digits window w))

pub order_line_short : (name : List ℕ) (train : ℕ) → length name ≤ 12 → train < 1000000000 → length (order_line name train) ≤ 25
unfolding order_line
order_line_short name train n t = simp length-append (omega (arith, nine_digits train t))

pub rounds_line_short : (rounds : ℕ) → rounds < 1000000000 → length (rounds_line rounds) ≤ 12
unfolding rounds_line
rounds_line_short rounds r = simp length-append (omega (arith, nine_digits rounds r))

number_small : (r : Refusal) → number r < 1000000000
number_small (Malformed line) = omega arith
number_small (OutOfRange line) = omega arith
number_small (KindTooEarly line) = omega arith
number_small (TooMany line) = omega arith
number_small KindMissing = omega arith
number_small (OutOfOrder line) = omega arith
number_small TooFewPlaces = omega arith
number_small NoSchedule = omega arith
number_small AreaTooShort = omega arith
number_small WishTooEarly = omega arith
number_small WrongRows = omega arith
number_small RuleBroken = omega arith
number_small GoneWrong = omega arith

pub refusal_line_short : (r : Refusal) → returned r < 2 ^ 64 → length (refusal_line r) ≤ 33
unfolding refusal_line
refusal_line_short r l = simp length-append (omega (arith, nine_digits (number r) (number_small r), twenty_digits (returned r) l))

-- ---- a plan

pub pair_lines_short : (pairs : List ℤ) (m : ℕ) → ((k : ℕ) → k < numbers_a_pair * m → nat_abs (get_or pairs k (pos 0)) < 1000000000)
    → length (pair_lines pairs m) ≤ 24 * m
unfolding pair_lines
pair_lines_short pairs zero h = omega arith
pair_lines_short pairs (suc m) h =
    let a = numbers_a_pair * m in
    omega (
      arith,
      length-append (pair_lines pairs m) (pair_line (get_or pairs a (pos 0)) (get_or pairs (a + 1) (pos 0))),
      pair_lines_short pairs m (λ k l. h k (omega arith)),
      pair_line_short (get_or pairs a (pos 0)) (get_or pairs (a + 1) (pos 0)) (h a (omega arith)) (h (a + 1) (omega arith)),
    )

pub time_lines_short : (times : List ℕ) (m : ℕ) → m < 1000000000 → ((k : ℕ) → k < numbers_a_train * m → get_or times k 0 < 1000000000)
    → length (time_lines times m) ≤ 42 * m
unfolding time_lines
time_lines_short times zero few h = omega arith
time_lines_short times (suc m) few h =
    let a = numbers_a_train * m in
    omega (
      arith,
      length-append (time_lines times m) (time_line (suc m) (get_or times a 0) (get_or times (a + 1) 0) (get_or times (a + 2) 0)),
      time_lines_short times m (omega arith) (λ k l. h k (omega arith)),
      time_line_short (suc m) (get_or times a 0) (get_or times (a + 1) 0) (get_or times (a + 2) 0) few
          (h a (omega arith)) (h (a + 1) (omega arith)) (h (a + 2) (omega arith)),
    )

pub order_lines_short : (name : ℕ → List ℕ) (trains : List ℕ) (m : ℕ) → ((j : ℕ) → length (name j) ≤ 12) → ((k : ℕ) → k < m → get_or trains k 0 < 1000000000)
    → length (order_lines name trains m) ≤ 25 * m
unfolding order_lines
order_lines_short name trains zero short h = omega arith
order_lines_short name trains (suc m) short h =
    omega (
      arith,
      length-append (order_lines name trains m) (order_line (name (suc m)) (get_or trains m 0)),
      order_lines_short name trains m short (λ k l. h k (omega arith)),
      order_line_short (name (suc m)) (get_or trains m 0) (short (suc m)) (h m (omega arith)),
    )

-- an order's name has at most 12 bytes
pub name_short : (text : List ℕ) (names : NamePlaces) → NamesLie text names → (j : ℕ) → length (name_of text names j) ≤ 12
unfolding name_of
name_short text names h j = rw (name_within text names h j) (simp length-take (omega (arith, (short_name text names h j).1)))
