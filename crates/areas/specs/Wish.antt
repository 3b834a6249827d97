-- The last listed arrival, as it is read from the pairs area.
use Rattle.std.specs.Prelude.{◌≡◌, cond, List, ℕ, ◌-◌, ◌*◌, ◌≤◌, leb, ℤ, pos, negsuc, length, get_or}
use Rattle.model.specs.Limits.{last_arrival, numbers_a_pair}

-- a number of the area as an arrival; 0 if it is none
unfoldable pub arrival_of : ℤ → ℕ
arrival_of (pos n) = cond (leb n last_arrival) n 0
arrival_of (negsuc n) = 0

-- where the area holds so many pairs, the wish is the first number of the last pair, as an arrival
abbrev pub ForLast : (count : ℕ) → List ℤ → (wish : ℕ) → Type 0
ForLast count pairs wish =
    1 ≤ count → numbers_a_pair * count ≤ length pairs → wish ≡ arrival_of (get_or pairs (numbers_a_pair * (count - 1)) (pos 0))
