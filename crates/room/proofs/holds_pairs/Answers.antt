-- `room::holds_pairs` meets its contract: no figure is so great that its double wraps. Assumes nothing.
use native.Mathlib.Omega.{arith}
use Rattle.model.specs.Memory.{sheet_of}
use Rattle.rounds.proofs.BoundLaws.{bound_most}
use Rattle.room.proofs.holds_pairs.Goals as goal

pub overflow_mul-result : goal.overflow_mul-result
overflow_mul-result c = omega (arith, c.figure.ensures, bound_most (sheet_of c.args.sheet.columns) c.args.sheet.admitted)
