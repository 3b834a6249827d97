-- What is asked of a state that comes from outside, with this sheet and areas of these lengths.
use Rattle.std.specs.Prelude.{◌≡◌, true, ℕ, ◌≤◌}
use Rattle.model.specs.Sheet.{Sheet}
use Rattle.model.specs.Admission.{Admitted}
use Rattle.rounds.specs.RoundsBound.{rounds_bound}
use Rattle.rounds.specs.ByRound.{search_room}
use Rattle.search.specs.Parts.{Begun}
use Rattle.watch.specs.State.{progress_of}
use Rattle.watch.specs.declared.State.{State}

pub record Fits (s : Sheet) (state : State) (pairs trains times : ℕ) : Type 0 where
  pub admitted : Admitted s
  pub room : search_room s pairs trains times ≡ true
  pub few_pairs : state.pairs ≤ state.rounds
  pub few_rounds : state.rounds ≤ rounds_bound s
  -- while the search goes on a round can be made
  pub begun : state.ended ≡ 0 → Begun s (progress_of state)
