-- `number_fields` meets its contract: at each turn the fields that are left give what all of them give. Assumes nothing.
use mathlib.Core.Path.{◌≡◌}
use Prim.Native.Nat.{◌-◌}
use Rattle.std.proofs.Common.{◌≤◌, ◌++◌, drop, replicate}
use Rattle.lines.specs.Lines.{record_of, numbers_from, number_fields}
use Rattle.lines.proofs.kinds.number_fields.Given as goal

abbrev pub invariant-loop-value : goal.invariant-loop-value
invariant-loop-value l = (l.count ≤ 3)
    × (number_fields l.text l.line l.letter l.name.start l.name.length
    ≡ numbers_from l.text l.line (record_of l.letter l.name.start l.name.length)
    (l.count - l.value-index) l.value-index l.end (l.value-items ++ drop l.count (replicate 3 0)))
