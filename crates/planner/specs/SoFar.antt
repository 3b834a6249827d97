-- How far each call has come in its rounds.
use Rattle.std.specs.Prelude.{ℕ, ◌≤◌, List, leb}
use Rattle.numbers.specs.OneMoreLaws.{All}
use Rattle.model.specs.Sheet.{Sheet}
use Rattle.model.specs.Replies.{ChoiceReply}
use Rattle.rounds.specs.Recording.{Entry, no_entry}
use Rattle.rounds.specs.Outset.{Outset, ordinary}
use Rattle.rounds.specs.Rounds.{start_from, rounds_from, recorded_from}
use Rattle.rounds.specs.Answers.{chosen}
use Rattle.rounds.specs.Areas.{PlanAreas}
use Rattle.rounds.specs.Told.{ChoiceTold}
use Rattle.search.specs.Shows.{ShowsFrom}
use Rattle.search.specs.declared.Progress.{Progress}
use Rattle.planner.specs.Outcome.{choice_so}

-- the progress shows the search after the rounds that it has made
abbrev pub RunningFrom : Sheet → Outset → Progress → Type 0
RunningFrom s o p = ShowsFrom s o p (rounds_from s o p.rounds (start_from o))

-- what is recorded by then
abbrev pub recorded_now_from : Sheet → Outset → Progress → List Entry
recorded_now_from s o p = recorded_from s o p.rounds

-- both from the sheet alone
abbrev pub Running : Sheet → Progress → Type 0
Running s = RunningFrom s (ordinary s)

abbrev pub recorded_now : Sheet → Progress → List Entry
recorded_now s = recorded_now_from s (ordinary s)

-- of these entries the choice is held, where the arrival recorded last is `last`: what would be told now is what they answer to the wish, in the areas too,
-- and while the last one is in time all are
pub record Holds (s : Sheet) (wish : ℕ) (choice : ChoiceReply) (left found : PlanAreas) (last : ℕ) (entries : List Entry) : Type 0 where
  pub told : ChoiceTold s (chosen wish entries) (choice_so choice (leb last wish)) left found
  pub in_time : last ≤ wish → All no_entry (λ e. e.pair.last ≤ wish) entries
