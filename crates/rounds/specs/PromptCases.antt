-- DOCUMENT 02, NO. 11, AS AN INSTRUCTOR USES IT: why a train of a given plan waits.
use Rattle.std.specs.Prelude.{List, ℕ, ◌≤◌, ℤ, pos, ◌≤ℤ◌}
use Rattle.numbers.specs.Counting.{nth}
use Rattle.model.specs.Sheet.{Sheet}
use Rattle.model.specs.Schedule.{Schedule}
use Rattle.model.specs.Arrival.{arrival}
use Rattle.model.specs.Lateness.{pair_of}
use Rattle.model.specs.Cases.{case_a}
use Rattle.rounds.specs.ShortCases.{empty_middle}

-- no schedule with a worst weighted lateness of z or less has train i leave before minute S, or arrive before minute F
abbrev pub HasToWait : (s : Sheet) (z : ℤ) (i S F : ℕ) → Type 0
HasToWait s z i S F =
    (train departure : List ℕ) → Schedule s train departure → (pair_of s train departure).worst ≤ℤ z
    → (S ≤ nth departure i) × (F ≤ arrival s.paths (nth departure) i)

pub record PromptCasesAre : Type 0 where
  -- of case a's plan with the pair (130, 70), which prints `D,2,100,130,1`: train 2 leaves at 100, and not at 95
  pub last_plan : HasToWait case_a (pos 70) 2 100 130
  -- of its plan with the pair (110, 150): train 2 leaves at 90
  pub first_plan : HasToWait case_a (pos 150) 2 90 110
  -- of a plan with the pair (190, 30), in which train 2 is empty and leaves at 100
  pub empty_train : HasToWait empty_middle (pos 30) 2 100 130
