-- What the checker's parts answer: tests 12 and 13, and the pair beside the list that stands in the area.
use Rattle.std.specs.Prelude.{◌≡◌, Bool, ◌&&◌, cond, List, ℕ, ◌+◌, ◌*◌, ◌≤◌, ℤ, pos, length, get_or}
use Rattle.numbers.specs.Counting.{some, same}
use Rattle.model.specs.Sheet.{Sheet}
use Rattle.model.specs.Limits.{numbers_a_pair}
use Rattle.model.specs.Lateness.{Pair, pair_of, greatest_lateness}
use Rattle.model.specs.ScheduleTest.{is_schedule}
use Rattle.model.specs.Foreign.{rows_fit, trains_told}
use Rattle.model.specs.declared.Row.{Row}
use Rattle.model.specs.declared.Refusal.TheVariants.{WrongRows, RuleBroken}
use Rattle.std.specs.Prelude.{Ok, Err}
use Rattle.model.specs.Replies.{ListReply, ChoiceReply, CheckReply, listed_as, chosen_as, checked_as}

-- a pair as it is told
abbrev pub kept : Pair → ChoiceReply
kept p = chosen_as p.last p.worst

-- 12, then 13, else the plan's pair
unfoldable pub judged_so : Sheet → (departure : List ℕ) → List Row → ChoiceReply
unfolding rows_fit trains_told is_schedule greatest_lateness
judged_so s departure rows =
    let train : List ℕ = trains_told s.orders rows in
    cond (rows_fit s departure rows) (cond (is_schedule s train departure) (kept (pair_of s train departure)) (Err RuleBroken)) (Err WrongRows)

-- pair k of an area is this one
abbrev pub pair_here : List ℤ → (last : ℕ) (worst : ℤ) → ℕ → Bool
pair_here area last worst k =
    same (get_or area (numbers_a_pair * k) (pos 0)) (pos last) && same (get_or area (numbers_a_pair * k + 1) (pos 0)) worst

unfoldable pub listed_in : List ℤ → (last : ℕ) (worst : ℤ) → (count : ℕ) → Bool
unfolding some
listed_in area last worst count = some (pair_here area last worst) count

-- as many pairs as the reply says lie in the area
abbrev pub InArea : ListReply → List ℤ → Type 0
InArea reply area = (pairs rounds : ℕ) → reply ≡ listed_as pairs rounds → numbers_a_pair * pairs ≤ length area

unfoldable pub beside_reply : ListReply → (last : ℕ) (worst : ℤ) → List ℤ → CheckReply
unfolding listed_in
beside_reply (Err r) last worst area = Err r
beside_reply (Ok l) last worst area = checked_as last worst (listed_in area last worst l.pairs) l.pairs l.rounds
