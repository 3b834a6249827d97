-- What one round leaves, for the round call.
use Rattle.std.specs.Prelude.{◌≡◌, ◌*◌, ◌≤◌, length}
use Rattle.model.specs.Sheet.{Sheet}
use Rattle.model.specs.Limits.{numbers_a_pair}
use Rattle.rounds.specs.ByRound.{SearchAreas, Calls, then_round}
use Rattle.watch.specs.LeftBy.{LeftBy}
use Rattle.watch.specs.declared.State.{State}

pub record Advanced (s : Sheet) (state next : State) (left found : SearchAreas) : Type 0 where
  pub moves : (lent : SearchAreas) (calls : Calls) → LeftBy s lent calls state found → LeftBy s lent (then_round calls) next left
  pub within : numbers_a_pair * next.pairs ≤ length left.pairs
  -- where nothing is recorded nothing was written
  pub as_found : next.pairs ≡ 0 → left ≡ found
