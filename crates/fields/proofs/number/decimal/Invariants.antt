-- `decimal` meets its contract: the value so far is that of the digits passed, which are few enough to fit. Assumes nothing.
use mathlib.Core.Path.{◌≡◌}
use Rattle.fields.specs.Numbers.{decimal_of}
use Rattle.fields.proofs.number.decimal.Given as goal

abbrev pub invariant-loop-n : goal.invariant-loop-n
invariant-loop-n l = l.value ≡ decimal_of l.text l.from l.n
