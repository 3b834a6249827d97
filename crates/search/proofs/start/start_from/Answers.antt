-- `search::start::start_from` meets its contract: nothing is recorded yet, and no order has a train. Assumes nothing.
use mathlib.Core.Path.{refl}
use Rattle.search.proofs.ShowsLaws.{starts}
use Rattle.search.proofs.start.start_from.Goals as goal

pub returns : goal.returns
returns c = λ s few. starts s c.args.outset _ few.orders refl refl refl refl refl refl
