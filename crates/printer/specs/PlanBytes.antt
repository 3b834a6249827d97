-- DOCUMENT 01, "THE PRINTED PLAN": ALL ITS LINES, in their order.
use Rattle.std.specs.Prelude.{List, ◌++◌, ℕ, ◌/◌, ℤ, length}
use Rattle.model.specs.Limits.{numbers_a_pair, numbers_a_train}
use Rattle.fields.specs.declared.NamePlaces.{NamePlaces}
use Rattle.layout.specs.Lines.{rounds_line, pair_lines, time_lines, name_of, order_lines}

-- P, D, L and R lines; a lone last number of the pairs, and one or two last numbers of the times, are passed over
unfoldable pub plan_bytes : (text : List ℕ) → NamePlaces → (pairs : List ℤ) (trains times : List ℕ) (rounds : ℕ) → List ℕ
unfolding pair_lines time_lines order_lines rounds_line
plan_bytes text names pairs trains times rounds =
    pair_lines pairs (length pairs / numbers_a_pair) ++ time_lines times (length times / numbers_a_train)
    ++ order_lines (name_of text names) trains (length trains) ++ rounds_line rounds
