-- DOCUMENT 02, NO. 13: "With no train gone and minute 0 it is the ordinary plan." Of the calls: what keeps the contract of replanning then keeps that of the
-- ordinary call. Assumes nothing.
use Rattle.std.proofs.Common.{subst}
use Rattle.std.specs.Prelude.{List, ℕ, ℤ}
use Rattle.model.specs.Sheet.{Sheet}
use Rattle.model.specs.Gone.{nothing_gone}
use Rattle.model.specs.Replies.{ListReply, ChoiceReply}
use Rattle.rounds.specs.Recording.{Entry}
use Rattle.rounds.specs.Answers.{Answer, Listing}
use Rattle.rounds.specs.Areas.{PlanAreas}
use Rattle.rounds.specs.Told.{ListTold, ChoiceTold}
use Rattle.front.proofs.Replanned.{as_ever, as_ever_chosen}
use Rattle.planner.specs.Listing.{ListingCall}
use Rattle.planner.proofs.ListingLaws.{listing_call}
use Rattle.planner.specs.Choosing.{ChoosingCall}
use Rattle.planner.proofs.ChoosingLaws.{choosing_call}
use Rattle.replan.specs.Relisting.{RelistingCall}
use Rattle.replan.specs.Rechoosing.{RechoosingCall}

pub lists_as_ever : (s : Sheet) (r : ListReply) (left found : List ℤ) → RelistingCall s nothing_gone r left found → ListingCall s r left found
lists_as_ever s r left found h = listing_call s r left found (subst (λ (x : Answer Listing). ListTold x r left found) (as_ever s found) h.equal)

pub chooses_as_ever : (s : Sheet) (wish : ℕ) (r : ChoiceReply) (left found : PlanAreas) → RechoosingCall s nothing_gone wish r left found
    → ChoosingCall s wish r left found
chooses_as_ever s wish r left found h =
    choosing_call s wish r left found (subst (λ (x : Answer Entry). ChoiceTold s x r left found) (as_ever_chosen s wish found) h.equal)
