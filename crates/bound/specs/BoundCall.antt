-- THE CONTRACT OF A BOUND CALL on the sheet s, with the reply r.
use Rattle.std.specs.Prelude.{◌≡◌, ◌↔◌, ◌⊎◌, List, ℕ, ◌*◌, ◌≤◌, ◌<◌, ℤ, length}
use Rattle.model.specs.Sheet.{Sheet, places}
use Rattle.model.specs.Limits.{numbers_a_pair}
use Rattle.model.specs.Refusal.{of_reply, number_of, returned_of}
use Rattle.model.specs.Admission.{Admitted}
use Rattle.std.specs.Prelude.{Ok}
use Rattle.model.specs.Replies.{BoundReply}
use Rattle.rounds.specs.Recording.{Entry, listed}
use Rattle.rounds.specs.Rounds.{ended, rounds_in, start, rounds, recorded_after}
use Rattle.rounds.specs.RoundsBound.{rounds_bound}
use Rattle.rounds.specs.Areas.{ListRoom}
use Rattle.rounds.specs.Bound.{bound, bound_reply}

pub record BoundCall (s : Sheet) (r : BoundReply) : Type 0 where
  -- "A call gives, for a sheet that passes 4, 5, 2, 6 and 7 (else that refusal), .. 1 plus the sum over i = 1 to q − 1 of the smaller of n and K_i."
  pub equal : r ≡ bound_reply (bound s)
  pub figure : Admitted s → r ≡ Ok (rounds_bound s)
  -- "no search makes more rounds than that": looked at after however many rounds, it has made no more
  pub no_more_rounds : (most : ℕ) → r ≡ Ok most → (k : ℕ) → rounds_in (rounds s k (start s)) ≤ most
  -- and after as many it has ended
  pub ends : (most : ℕ) → r ≡ Ok most → (k : ℕ) → most ≤ k → (c : ℕ) × (recorded : List Entry) × (rounds s k (start s) ≡ ended c recorded)
  -- "and lists no more pairs", between rounds too
  pub no_more_pairs : (most : ℕ) → r ≡ Ok most → (k : ℕ) → length (listed (recorded_after s k)) ≤ most
  -- "Refusal 10 then tests pairs against this figure": an area has room exactly if it holds as many pairs
  pub room : (most : ℕ) → r ≡ Ok most → (pairs : List ℤ) → ListRoom s pairs ↔ (numbers_a_pair * most ≤ length pairs)
  -- it refuses with nothing but 4, 5, 2, 6 and 7, and returns 0 then
  pub refuses : (number_of (of_reply r) ≡ 0) ⊎ ((number_of (of_reply r) ≡ 2) ⊎ ((4 ≤ number_of (of_reply r)) × (number_of (of_reply r) ≤ 7)))
  pub returns_zero : returned_of (of_reply r) ≡ 0
  -- document 02, No. 5: "refusal 7 is given only if the capacities add up to less than n"
  pub seven : number_of (of_reply r) ≡ 7 → places s.capacity s.trains < s.orders
