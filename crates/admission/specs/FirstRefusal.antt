-- What the tests 5, 2, 6 and 7 answer to a sheet that passes test 4.
use Rattle.std.specs.Prelude.{Bool}
use Rattle.model.specs.Admission.{passed}
use Rattle.std.specs.Prelude.{Ok}
use Rattle.model.specs.Replies.{Admission}
use Rattle.model.specs.declared.Refusal.TheVariants.{OutOfRange, KindMissing, OutOfOrder, TooFewPlaces}

-- the first that fails decides
abbrev pub first_refusal : (complete in_range is_in_order roomy : Bool) → Admission
first_refusal complete in_range is_in_order roomy =
    passed complete KindMissing
    (passed in_range (OutOfRange 0)
    (passed is_in_order (OutOfOrder 0)
    (passed roomy TooFewPlaces (Ok tt))))
