-- WHAT A CALLER READS IN THE LENT AREAS after an accepted call.
use Rattle.std.specs.Prelude.{List, ℕ, ◌+◌, ◌*◌, ℤ, pos, nat_abs, get_or, take}
use Rattle.numbers.specs.Counting.{at, table}
use Rattle.model.specs.Sheet.{Sheet}
use Rattle.model.specs.Limits.{numbers_a_pair, numbers_a_train}
use Rattle.model.specs.Lateness.{Pair}
use Rattle.rounds.specs.Recording.{Plan}
use Rattle.rounds.specs.Areas.{PlanAreas}

-- the pair at place k of the pairs area: a last arrival and a worst weighted lateness
abbrev pub pair_in : List ℤ → ℕ → Pair
pair_in left k = record { last = nat_abs (get_or left (numbers_a_pair * k) (pos 0)); worst = get_or left (numbers_a_pair * k + 1) (pos 0) }

-- "The listed pairs are the first entries of the pairs area after an accepted call, as many as the call returns as their number."
unfoldable pub pairs_in : (count : ℕ) → List ℤ → List Pair
unfolding table
pairs_in count left = table (pair_in left) count

-- "n trains; q departures with arrivals", and the windows
unfoldable pub plan_in : Sheet → PlanAreas → Plan
unfolding table
plan_in s left =
    record {
      train = take s.orders left.trains;
      departure = table (λ m. at left.times (numbers_a_train * m)) s.trains;
      arrival = table (λ m. at left.times (numbers_a_train * m + 1)) s.trains;
      window = table (λ m. at left.times (numbers_a_train * m + 2)) s.trains;
    }
