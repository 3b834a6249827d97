-- The contracts of listing and choosing, told in numbers. Assumes nothing.
use Rattle.std.specs.Prelude.{◌≡◌, refl, List, ℕ, ◌≤◌, ℤ}
use Rattle.std.proofs.Common.{◌∙◌, ap, subst, arith}
use Rattle.model.specs.Sheet.{Sheet}
use Rattle.model.specs.Refusal.{of_reply, number_of, returned_of}
use Rattle.std.specs.Prelude.{Ok, Err}
use Rattle.model.specs.Replies.{ListReply, ChoiceReply}
use Rattle.rounds.specs.RoundsBound.{rounds_bound}
use Rattle.rounds.specs.Areas.{PlanAreas}
use Rattle.rounds.specs.ListedPairs.{Front}
use Rattle.planner.specs.Listing.{ListingCall}
use Rattle.planner.specs.Choosing.{Gives, ChoosingCall}
use Rattle.planner.specs.InAreas.{pairs_in}
use Rattle.exported.proofs.ExportedLaws.{numbered}
use Rattle.exported.specs.ExportedPlanning.{listing_of, ExportedListing, choice_of, pair_given, ExportedChoice}
use Rattle.exported.specs.declared.Listing.{Listing}
use Rattle.exported.specs.declared.Choice.{Choice}

-- the cause of a reply
list_cause : (x : ListReply) → (listing_of x).cause ≡ record { number = number_of (of_reply x); returned = returned_of (of_reply x) }
list_cause (Ok l) = refl
list_cause (Err r) = refl

choice_cause : (x : ChoiceReply) → (choice_of x).cause ≡ record { number = number_of (of_reply x); returned = returned_of (of_reply x) }
choice_cause (Ok p) = refl
choice_cause (Err r) = refl

-- what a listing call of the library promises, the exported one does
module _ (s : Sheet) (left found : List ℤ) where
  -- a reply without a number is an accepted call's
  accepted_list : (x : ListReply) → ListingCall s x left found → number_of (of_reply x) ≡ 0 → Front s (pairs_in (listing_of x).pairs left)
  accepted_list (Ok l) call e = call.front l.pairs l.rounds refl
  accepted_list (Err r) call e = absurd (omega (arith, numbered r))

  few_told : (x : ListReply) → ListingCall s x left found → ((listing_of x).pairs ≤ rounds_bound s) × ((listing_of x).rounds ≤ rounds_bound s)
  few_told (Ok l) call = call.within l.pairs l.rounds refl
  few_told (Err r) call = (omega arith, omega arith)

  pub exported_listing : (x : ListReply) (r : Listing) → ListingCall s x left found → r ≡ listing_of x → ExportedListing s r left found
  exported_listing x r call e =
      let cause = ap (λ (p : Listing). p.cause) e ∙ list_cause x in
      let replied = call.equal.replied in
      record {
        equal = e ∙ ap listing_of replied;
        call = subst (λ (y : ListReply). ListingCall s y left found) replied call;
        front = λ u. rw e (accepted_list x call (rw cause at u));
        within = rw e (few_told x call);
        eight = rw cause call.eight;
        lists = λ a room some. let (pairs, rounds, is) = call.lists a room some in rw (cause, is) refl;
        seven = rw cause call.seven;
        returns_zero = rw cause call.returns_zero;
        as_found = rw cause call.as_found;
      }

-- and so with choosing
module _ (s : Sheet) (wish : ℕ) (left found : PlanAreas) where
  gives : (x : ChoiceReply) → number_of (of_reply x) ≡ 0 → Gives x (pair_given (choice_of x))
  gives (Ok p) e = refl
  gives (Err r) e = absurd (omega (arith, numbered r))

  pub exported_choice : (x : ChoiceReply) (r : Choice) → ChoosingCall s wish x left found → r ≡ choice_of x → ExportedChoice s wish r left found
  exported_choice x r call e =
      let cause = ap (λ (p : Choice). p.cause) e ∙ choice_cause x in
      let replied = call.equal.replied in
      record {
        equal = e ∙ ap choice_of replied;
        call = subst (λ (y : ChoiceReply). ChoosingCall s wish y left found) replied call;
        schedule = λ u. rw e (call.schedule (pair_given (choice_of x)) (gives x (rw cause at u)));
        booked = λ u. call.booked (pair_given (choice_of x)) (gives x (rw cause at u));
        empty_trains = λ u. call.empty_trains (pair_given (choice_of x)) (gives x (rw cause at u));
        prompt = λ u. call.prompt (pair_given (choice_of x)) (gives x (rw cause at u));
        listed = λ u. rw e (call.listed (pair_given (choice_of x)) (gives x (rw cause at u)));
        best = λ u. rw e (call.best (pair_given (choice_of x)) (gives x (rw cause at u)));
        eight = rw cause call.eight;
        eleven = rw cause call.eleven;
        seven = rw cause call.seven;
        returns_zero = rw cause call.returns_zero;
        as_found = rw cause call.as_found;
      }
