-- WHAT STANDS BETWEEN TWO CALLS.
use Rattle.std.specs.Prelude.{◌≡◌, length}
use Rattle.model.specs.Sheet.{Sheet}
use Rattle.model.specs.Admission.{Admitted}
use Rattle.rounds.specs.Rounds.{recorded_in}
use Rattle.rounds.specs.ByRound.{SearchAreas, SearchRoom, Calls, search_by, areas_by}
use Rattle.search.specs.Shows.{Shows}
use Rattle.watch.specs.State.{progress_of}
use Rattle.watch.specs.declared.State.{State}

-- "the state that the call before gave back", and the areas as it left them, after these calls of a search on the sheet s in areas that were lent so
pub record LeftBy (s : Sheet) (lent : SearchAreas) (calls : Calls) (state : State) (left : SearchAreas) : Type 0 where
  pub admitted : Admitted s
  pub room : SearchRoom s left
  -- the state shows the search after these calls
  pub shows : Shows s (progress_of state) (search_by s calls)
  pub pairs_are : state.pairs ≡ length (recorded_in (search_by s calls))
  -- the areas hold what is recorded by then
  pub areas_are : left ≡ areas_by s (search_by s calls) lent
