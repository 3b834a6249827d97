-- What is told at the end of each call's rounds.
use Rattle.std.specs.Prelude.{Bool, true, false, cond, ℕ, eqb, Ok, Err}
use Rattle.model.specs.declared.Refusal.TheVariants.{NoSchedule, WishTooEarly}
use Rattle.model.specs.Replies.{ListReply, ChoiceReply, listed_as}

-- "no schedule (step 2 stops round 1)", where nothing is listed, or how many pairs and rounds
abbrev pub listed_so : (pairs rounds : ℕ) → ListReply
listed_so pairs rounds = cond (eqb pairs 0) (Err NoSchedule) (listed_as pairs rounds)

-- the choice so far; 11 where nothing is chosen and the pair recorded last is not in time
abbrev pub choice_so : ChoiceReply → (in_time : Bool) → ChoiceReply
choice_so choice true = choice
choice_so (Ok p) false = Ok p
choice_so (Err r) false = Err WishTooEarly
