-- WHAT A CALL REPLIES: what it gives, or why it refuses.
use Rattle.std.specs.Prelude.{Bool, ℕ, ℤ, Result, Ok}
use Rattle.model.specs.declared.Refusal.{Refusal}
use Rattle.model.specs.declared.Listed.{Listed}
use Rattle.model.specs.declared.PlanPair.{PlanPair}
use Rattle.model.specs.declared.Checked.{Checked}

-- the tests of a sheet, a text or a line: that it passes them all, or the refusal of the first that fails
abbrev pub Admission : Type 0
Admission = Result (Unit {0}) Refusal

-- a bound call: the figure
abbrev pub BoundReply : Type 0
BoundReply = Result ℕ Refusal

-- a listing call: how many pairs it listed and how many rounds it made
abbrev pub ListReply : Type 0
ListReply = Result Listed Refusal

abbrev pub listed_as : (pairs rounds : ℕ) → ListReply
listed_as pairs rounds = Ok (record { pairs = pairs; rounds = rounds })

-- a choosing call: the pair that it chose
abbrev pub ChoiceReply : Type 0
ChoiceReply = Result PlanPair Refusal

abbrev pub chosen_as : (last : ℕ) (worst : ℤ) → ChoiceReply
chosen_as last worst = Ok (record { last = last; worst = worst })

-- a checking call, of a plan that is a schedule: its pair, whether that pair is listed, and what a listing call tells
abbrev pub CheckReply : Type 0
CheckReply = Result Checked Refusal

abbrev pub checked_as : (last : ℕ) (worst : ℤ) (listed : Bool) (pairs rounds : ℕ) → CheckReply
checked_as last worst listed pairs rounds =
    Ok (record { last = last; worst = worst; listed = listed; pairs = pairs; rounds = rounds })
