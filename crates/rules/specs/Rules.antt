-- The pair that the code finds, as the model has it.
use Rattle.model.specs.Lateness.{Pair}
use Rattle.model.specs.declared.PlanPair.{PlanPair}

abbrev pub pair_told : PlanPair → Pair
pair_told p = record { last = p.last; worst = p.worst }
