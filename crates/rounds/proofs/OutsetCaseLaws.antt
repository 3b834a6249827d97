-- The definitions at other outsets. Assumes nothing.
use Rattle.std.specs.Prelude.{◌≡◌, refl}
use Rattle.rounds.specs.OutsetCases.{outset_lists, stated_outset_lists}

pub outset_cases_are : outset_lists ≡ stated_outset_lists
unfolding outset_lists stated_outset_lists
outset_cases_are = refl
