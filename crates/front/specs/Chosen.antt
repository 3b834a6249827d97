-- WHICH LISTED PAIR A WISH IS ANSWERED WITH.
use Rattle.std.specs.Prelude.{◌≡◌, ℕ}
use Rattle.model.specs.Sheet.{Sheet}
use Rattle.model.specs.Lateness.{Pair}
use Rattle.rounds.specs.ChosenPair.{LastInTime}
use Rattle.rounds.specs.Answers.{Answer, given, Listing, list}

-- "the last listed pair not later than it", of this answer of the first call
pub record LastListed (x : Answer Listing) (wish : ℕ) (p : Pair) : Type 0 where
  pub listing : Listing
  pub is_list : x ≡ given listing
  pub last : LastInTime wish listing.pairs p

abbrev pub ChosenListed : (s : Sheet) (wish : ℕ) (p : Pair) → Type 0
ChosenListed s = LastListed (list s)
