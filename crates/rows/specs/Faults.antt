-- DOCUMENT 01, "THE SHEET": "Reading takes lines from the top; within a line the order is 1, 3, 4, 2, 6; after the last line, 5, 7."
-- Test 1 is the line's own form (`lines`), or that it is of the other form (`gather`). Each test is true where it passes; the first that fails decides.
use Rattle.std.specs.Prelude.{Bool, ℕ}
use Rattle.model.specs.Admission.{passed}
use Rattle.model.specs.declared.Refusal.TheVariants.{OutOfRange, KindTooEarly, TooMany, KindMissing, OutOfOrder, TooFewPlaces}
use Rattle.std.specs.Prelude.{Ok}
use Rattle.model.specs.Replies.{Admission}
use Rattle.rows.specs.declared.LineTests.{LineTests}

-- 3: "kind earlier than the line above allows"; 4: "one more of a kind than allowed"; 2: "value outside its range"; 6: windows and times in order
unfoldable pub first_fault : (line : ℕ) → LineTests → Admission
first_fault line t =
    passed t.late_enough (KindTooEarly line)
    (passed t.few (TooMany line)
    (passed t.in_range (OutOfRange line)
    (passed t.in_order (OutOfOrder line) (Ok tt))))

-- 5: "a kind is missing"; 7, in the words of document 02, No. 5: "the capacities add up to less than n"
unfoldable pub last_fault : Bool → Bool → Admission
last_fault complete roomy = passed complete KindMissing (passed roomy TooFewPlaces (Ok tt))
