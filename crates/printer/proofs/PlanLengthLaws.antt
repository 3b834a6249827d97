-- How many bytes a plan has at most, where every number of it is below 1,000,000,000. Assumes nothing.
use Rattle.std.specs.Prelude.{List, ◌++◌, ℕ, ◌+◌, ◌*◌, ◌/◌, ◌≤◌, ◌<◌, ℤ, pos, nat_abs, length, get_or}
use Rattle.std.proofs.Common.{arith, length-append}
use Rattle.model.specs.Limits.{order_counts, numbers_a_pair, numbers_a_train, most_pair_numbers, most_time_numbers, most_printed}
use Rattle.fields.specs.NamePlaces.{NamesLie}
use Rattle.fields.specs.declared.NamePlaces.{NamePlaces}
use Rattle.layout.proofs.LengthLaws.{pair_lines_short, time_lines_short, order_lines_short, rounds_line_short, name_short}
use Rattle.layout.specs.Lines.{rounds_line, pair_lines, time_lines, order_lines, name_of}
use Rattle.printer.specs.PlanBytes.{plan_bytes}

-- what bounds the numbers of a plan
pub record Small (pairs : List ℤ) (trains times : List ℕ) (rounds : ℕ) : Type 0 where
  pub pairs_small : (k : ℕ) → k < length pairs → nat_abs (get_or pairs k (pos 0)) < 1000000000
  pub trains_small : (k : ℕ) → k < length trains → get_or trains k 0 < 1000000000
  pub times_small : (k : ℕ) → k < length times → get_or times k 0 < 1000000000
  pub rounds_small : rounds < 1000000000

four_short : (a b c d : List ℕ) (i j k l m : ℕ) → length a ≤ i → length b ≤ j → length c ≤ k → length d ≤ l → i + j + k + l ≤ m → length (a ++ b ++ c ++ d) ≤ m
four_short a b c d i j k l m p q r s t = omega (arith, length-append (a ++ b ++ c) d, length-append (a ++ b) c, length-append a b)

-- A PLAN OF AT MOST 6,400 PAIRS, 200 ORDERS AND 32 TRAINS HAS AT MOST 163,840 BYTES
pub plan_short : (text : List ℕ) (names : NamePlaces) (pairs : List ℤ) (trains times : List ℕ) (rounds : ℕ) → NamesLie text names
    → length pairs ≤ most_pair_numbers → length trains ≤ order_counts.most → length times ≤ most_time_numbers → Small pairs trains times rounds
    → length (plan_bytes text names pairs trains times rounds) ≤ most_printed
unfolding plan_bytes
plan_short text names pairs trains times rounds h p o t s =
    let name = name_of text names in
    let lines = length times / numbers_a_train in
    four_short (pair_lines pairs (length pairs / numbers_a_pair)) (time_lines times lines) (order_lines name trains (length trains)) (rounds_line rounds)
    (24 * (length pairs / numbers_a_pair)) (42 * lines) (25 * length trains) 12 most_printed
    (pair_lines_short pairs (length pairs / numbers_a_pair) (λ k l. s.pairs_small k (omega arith)))
    (time_lines_short times lines (omega arith) (λ k l. s.times_small k (omega arith)))
    (order_lines_short name trains (length trains) (name_short text names h) s.trains_small)
    (rounds_line_short rounds s.rounds_small) (omega arith)
