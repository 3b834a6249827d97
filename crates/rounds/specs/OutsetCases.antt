-- THE ROUNDS FROM OTHER OUTSETS: what the definitions give for case a's orders on two trains of two places, with one part of the outset changed at a time. From
-- the sheet alone the list is (110, 150) and (130, 30) after 3 rounds (ShortCases.antt).
use Rattle.std.specs.Prelude.{List, [], ◌∷◌, map, ℕ, pos}
use Rattle.numbers.specs.Counting.{nth}
use Rattle.model.specs.declared.Refusal.TheVariants.{NoSchedule}
use Rattle.rounds.specs.Outset.{Outset}
use Rattle.rounds.specs.Answers.{Answer, refused, Listing, list_from}
use Rattle.rounds.specs.Cases.{pair, lists}
use Rattle.rounds.specs.ShortCases.{one_to_spare}

abbrev from : (capacity latest since : List ℕ) → Outset
from capacity latest since = record { capacity = nth capacity; latest = latest; since = nth since }

-- train 1 has one place, as in case a; B has to ride train 1; train 2 may leave from minute 95 on; or from 201 on, after its last window
unfoldable pub outsets : List Outset
outsets =
    from (1 ∷ 2 ∷ []) (2 ∷ 2 ∷ 2 ∷ []) (0 ∷ 0 ∷ [])
    ∷ from (2 ∷ 2 ∷ []) (2 ∷ 1 ∷ 2 ∷ []) (0 ∷ 0 ∷ [])
    ∷ from (2 ∷ 2 ∷ []) (2 ∷ 2 ∷ 2 ∷ []) (0 ∷ 95 ∷ [])
    ∷ from (2 ∷ 2 ∷ []) (2 ∷ 2 ∷ 2 ∷ []) (0 ∷ 201 ∷ [])
    ∷ []

unfoldable pub outset_lists : List (Answer Listing)
unfolding outsets list_from
outset_lists = map (list_from one_to_spare) outsets

unfoldable pub stated_outset_lists : List (Answer Listing)
stated_outset_lists =
    lists (pair 110 (pos 150) ∷ pair 130 (pos 70) ∷ []) 2
    ∷ lists (pair 130 (pos 30) ∷ []) 2
    ∷ lists (pair 115 (pos 165) ∷ pair 130 (pos 30) ∷ []) 3
    ∷ refused NoSchedule
    ∷ []
