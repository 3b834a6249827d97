-- `room::for_search` meets its contract: a sheet that passes the tests is admitted. Assumes nothing.
use Rattle.std.proofs.Common.{sym, ◌∙◌}
use Rattle.model.specs.Memory.{sheet_of}
use Rattle.room.proofs.CallLaws.{passed}
use Rattle.room.proofs.for_search.Goals as goal

pub invariant_of-result : goal.invariant_of-result
invariant_of-result c = record { admitted = (passed (sheet_of c.args.sheet) _ (sym c.test_for_search.ensures ∙ c.in_ok-test_for_search.was)).0 }
