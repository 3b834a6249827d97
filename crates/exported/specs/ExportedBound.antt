-- WHAT THE EXPORTED BOUND CALLS RETURN AND PROMISE, in numbers. The numbers are those of the reply that the definition gives, and with that reply the library's
-- own contract holds; what that contract says follows, in the returned numbers.
use Rattle.std.specs.Prelude.{◌≡◌, ◌↔◌, ◌⊎◌, List, ℕ, ◌*◌, ◌≤◌, ◌<◌, ℤ, length}
use Rattle.model.specs.Sheet.{Sheet, places}
use Rattle.model.specs.Limits.{numbers_a_pair}
use Rattle.model.specs.Admission.{Admitted}
use Rattle.std.specs.Prelude.{Ok, Err}
use Rattle.model.specs.Replies.{BoundReply}
use Rattle.rounds.specs.Recording.{Entry, listed}
use Rattle.rounds.specs.Rounds.{ended, rounds_in, start, rounds, recorded_after}
use Rattle.rounds.specs.RoundsBound.{rounds_bound}
use Rattle.rounds.specs.Areas.{ListRoom}
use Rattle.rounds.specs.Bound.{bound, bound_reply}
use Rattle.bound.specs.BoundCall.{BoundCall}
use Rattle.exported.specs.Exported.{no_cause, cause_of}
use Rattle.exported.specs.declared.bounding.Bound.{Bound}

abbrev pub bound_of : BoundReply → Bound
bound_of (Ok most) = record { cause = no_cause; most = most }
bound_of (Err r) = record { cause = cause_of r; most = 0 }

pub record ExportedBound (s : Sheet) (r : Bound) : Type 0 where
  pub equal : r ≡ bound_of (bound_reply (bound s))
  pub call : BoundCall s (bound_reply (bound s))
  -- it accepts "a sheet that passes 4, 5, 2, 6 and 7", and gives "1 plus the sum over i = 1 to q − 1 of the smaller of n and K_i"
  pub accepts : Admitted s → r.cause.number ≡ 0
  pub figure : r.cause.number ≡ 0 → r.most ≡ rounds_bound s
  -- of an accepted call: "no search makes more rounds than that", and after as many it has ended
  pub no_more_rounds : r.cause.number ≡ 0 → (k : ℕ) → rounds_in (rounds s k (start s)) ≤ r.most
  pub ends : r.cause.number ≡ 0 → (k : ℕ) → r.most ≤ k → (c : ℕ) × (recorded : List Entry) × (rounds s k (start s) ≡ ended c recorded)
  -- "and lists no more pairs"
  pub no_more_pairs : r.cause.number ≡ 0 → (k : ℕ) → length (listed (recorded_after s k)) ≤ r.most
  -- "Refusal 10 then tests pairs against this figure"
  pub room : r.cause.number ≡ 0 → (pairs : List ℤ) → ListRoom s pairs ↔ (numbers_a_pair * r.most ≤ length pairs)
  -- it refuses with nothing but 4, 5, 2, 6 and 7, and returns 0 then, beside the figure 0
  pub refuses : (r.cause.number ≡ 0) ⊎ ((r.cause.number ≡ 2) ⊎ ((4 ≤ r.cause.number) × (r.cause.number ≤ 7)))
  pub returns_zero : r.cause.returned ≡ 0
  pub beside : 1 ≤ r.cause.number → r.most ≡ 0
  -- document 02, No. 5: "refusal 7 is given only if the capacities add up to less than n"
  pub seven : r.cause.number ≡ 7 → places s.capacity s.trains < s.orders
