-- `name_field` meets its contract: the loop's invariant is that the bytes passed are put behind the comma. Assumes nothing.
use Rattle.std.proofs.Common.{take}
use Rattle.writing.specs.Writing.{Puts}
use Rattle.writing.proofs.Page.name_field.Given as goal

abbrev pub invariant-loop-byte : goal.invariant-loop-byte
invariant-loop-byte l = Puts (take l.byte-index l.name) l.initial.self l.self
