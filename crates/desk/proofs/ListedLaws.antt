-- What an accepted listing call has listed, and what is chosen for the last listed arrival. Assumes nothing.
use Rattle.std.proofs.Math.Path.{◌≡◌, refl}
use Rattle.std.proofs.Common.{ap, ◌∙◌, arith}
use Rattle.std.specs.Prelude.{List, ℕ, ℤ, length}
use Rattle.numbers.specs.Over.{over}
use Rattle.model.specs.Sheet.{Sheet}
use Rattle.model.specs.Limits.{order_counts, most_time_numbers}
use Rattle.model.specs.Admission.{Admitted}
use Rattle.model.specs.Replies.{listed_as}
use Rattle.model.specs.declared.Listed.{Listed}
use Rattle.rounds.specs.Answers.{Answer, refused, given, Listing, list, last_arrival_in}
use Rattle.rounds.specs.Areas.{PlanAreas, PlanRoom, list_room, list_to, choose_to, list_reply, list_left, pair_numbers}
use Rattle.rounds.proofs.AimLaws.{whole}
use Rattle.rounds.proofs.ChoosingLaws.{last_recorded_chosen}
use Rattle.planner.specs.InAreas.{pairs_in}
use Rattle.planner.proofs.InAreasLaws.{pairs_read}
use Rattle.room.proofs.CallLaws.{passed, accepted}
use Rattle.planner.proofs.ChoosingLaws.{choice_of_rounds}
use Rattle.planner.specs.Listing.{ListingCall}
use Rattle.desk.specs.AnswerBytes.{last_recorded}

-- ---- the listing

same_counts : (pairs rounds count made : ℕ) → listed_as pairs rounds ≡ listed_as count made → (pairs ≡ count) × (rounds ≡ made)
same_counts pairs rounds count made e =
    let same : ◌≡◌ {A = Listed} (record { pairs = pairs; rounds = rounds }) (record { pairs = count; rounds = made }) = cc in
    (ap (λ (l : Listed). l.pairs) same, ap (λ (l : Listed). l.rounds) same)

-- the sheet of an accepted call is admitted, and the area holds what the rounds list
pub record HasListed (s : Sheet) (count rounds : ℕ) (left found : List ℤ) : Type 0 where
  pub admitted : Admitted s
  pub listing : Listing
  pub is : list s ≡ given listing
  pub many : count ≡ length listing.pairs
  pub counted : rounds ≡ listing.rounds
  pub area : left ≡ over (pair_numbers listing.pairs) found

module _ (s : Sheet) (count rounds : ℕ) (left found : List ℤ) where
  pub has_listed : ListingCall s (listed_as count rounds) left found → HasListed s count rounds left found
  unfolding list_to list_reply list_left
  has_listed call = go (list_to s found) refl call.equal.replied call.equal.areas_left
    where
      go : (x : Answer Listing) → list_to s found ≡ x → listed_as count rounds ≡ list_reply x → left ≡ list_left x found
          → HasListed s count rounds left found
      go (refused r) u e f = absurd (let z : ◌≡◌ {A = ℕ} 0 1 = cc in omega arith)
      go (given l) u e f =
          let room = list_room s (length found) in
          let (granted, is) = accepted s room (list s) u in
          let same = same_counts count rounds (length l.pairs) l.rounds e in
          record { admitted = (passed s room granted).0; listing = l; is = is; many = same.0; counted = same.1; area = f }

  -- the pairs that are read are those that are listed
  pub pairs_listed : (h : HasListed s count rounds left found) → pairs_in count left ≡ h.listing.pairs
  pairs_listed h =
      let ps = h.listing.pairs in
      rw h.area (ap (λ (k : ℕ). pairs_in k (over (pair_numbers ps) found)) h.many ∙ pairs_read ps found)

-- ---- the choice

-- FOR THE LAST LISTED ARRIVAL IT IS CHOSEN, in areas of the greatest size
module _ (s : Sheet) (count rounds : ℕ) (pairs found : List ℤ) (h : HasListed s count rounds pairs found)
    (lent : PlanAreas) (trains_lent : length lent.trains ≡ order_counts.most) (times_lent : length lent.times ≡ most_time_numbers) where
  has_room : PlanRoom s lent
  has_room = record { trains = omega (arith, h.admitted.few.orders); times = omega (arith, h.admitted.few.trains) }

  pub last_answered : choose_to s (last_arrival_in (pairs_in count pairs)) lent ≡ given (last_recorded s)
  last_answered =
      choice_of_rounds s (last_arrival_in (pairs_in count pairs)) lent h.admitted has_room
      ∙ rw (pairs_listed s count rounds pairs found h) (last_recorded_chosen s (whole s h.admitted) h.is)
