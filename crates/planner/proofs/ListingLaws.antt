-- A LISTING CALL THAT IS EQUAL TO THE ROUNDS KEEPS ITS WHOLE CONTRACT. Assumes nothing.
use Rattle.std.specs.Prelude.{◌≡◌, ◌↔◌, List, ℕ, ℤ, length}
use Rattle.std.proofs.Math.Path.{refl, ap, subst}
use Rattle.std.proofs.Common.{sym, ◌∙◌, arith}
use Rattle.model.specs.Sheet.{Sheet}
use Rattle.model.specs.Schedule.{Schedule}
use Rattle.model.specs.Refusal.{of_reply, number_of}
use Rattle.model.specs.Admission.{Admitted}
use Rattle.std.specs.Prelude.{Ok, Err}
use Rattle.model.specs.Replies.{Admission, ListReply, listed_as}
use Rattle.model.specs.declared.Refusal.{Refusal}
use Rattle.rounds.specs.Answers.{Answer, Listing, list}
use Rattle.rounds.specs.Areas.{ListRoom, list_room, tested, list_to, list_reply, list_left}
use Rattle.rounds.proofs.AreaLaws.{list_refuses}
use Rattle.rounds.proofs.AimLaws.{whole}
use Rattle.rounds.proofs.AnswerLaws.{Answered, no_schedule, listing, answered}
use Rattle.rounds.specs.Told.{ListTold}
use Rattle.rounds.specs.ListedPairs.{Front}
use Rattle.front.proofs.Front.{listed_is_front, front_is_listed, list_within}
use Rattle.room.proofs.CallLaws.{told_first, told_then}
use Rattle.planner.specs.Listing.{ListingCall}
use Rattle.planner.proofs.AnsweredCallLaws.{Lists, list_past_tests, lists_so, list_left_as_found}

-- "then 8": what the rounds answer to a sheet that passes the tests
pub list_of_rounds : (s : Sheet) (lent : List ℤ) → Admitted s → ListRoom s lent → list_to s lent ≡ list s
unfolding list_to
list_of_rounds s lent a room = list_past_tests s (list s) lent a room

-- ---- what is told before the rounds, and after them

module _ (s : Sheet) (lent : List ℤ) (t : Admission) (is : t ≡ tested s (list_room s (length lent))) where
  pub told_refused : (f : Refusal) → t ≡ Err f → ListTold (list_to s lent) (Err f) lent lent
  unfolding list_to list_reply list_left
  told_refused f e = told_first list_reply list_left s (list_room s (length lent)) (list s) lent t is f e refl

  pub told_rounds : t ≡ Ok tt → (r : ListReply) (left : List ℤ) → ListTold (list s) r left lent → ListTold (list_to s lent) r left lent
  unfolding list_to
  told_rounds e = told_then list_reply list_left s (list_room s (length lent)) (list s) lent t is e

-- ---- the contract

-- of an admitted sheet the rounds answer with number 8 exactly when there is no schedule
eight_listed : (s : Sheet) → Admitted s → number_of (of_reply (list_reply (list s))) ≡ 8 ↔ ((train departure : List ℕ) → ¬ Schedule s train departure)
unfolding list_reply
eight_listed s a = go (list s) (answered s (whole s a))
  where
    go : (x : Answer Listing) → Answered s (whole s a) x
        → number_of (of_reply (list_reply x)) ≡ 8 ↔ ((train departure : List ℕ) → ¬ Schedule s train departure)
    go x (no_schedule none) = (λ e. none, λ f. refl)
    go x (listing l) =
        let (train, departure, h, own) = l.belong 0 l.not_empty in (λ e. absurd (omega arith), λ none. absurd (none train departure h))

module _ (s : Sheet) (r : ListReply) (left found : List ℤ) (told : ListTold (list_to s found) r left found) where
  accepts : (pairs rounds : ℕ) → r ≡ listed_as pairs rounds → Lists s (list s) left pairs rounds
  unfolding list_to
  accepts = lists_so s (list s) found r left told

  lists : Admitted s → ListRoom s found → ((train : List ℕ) × (departure : List ℕ) × Schedule s train departure)
      → (pairs : ℕ) × (rounds : ℕ) × (r ≡ listed_as pairs rounds)
  unfolding list_reply
  lists a room (train, departure, h) =
      let (l, is, front) = front_is_listed s a train departure h in
      (length l.pairs, l.rounds, told.replied ∙ ap list_reply (list_of_rounds s found a room ∙ is))

  -- THE WHOLE CONTRACT FOLLOWS FROM THE EQUALITY
  pub listing_call : ListingCall s r left found
  unfolding list_to
  listing_call =
      record {
        equal = told;
        front = λ pairs rounds e. let h = accepts pairs rounds e in subst (Front s) (sym h.read) (listed_is_front s h.admitted h.is);
        lists = lists;
        within = λ pairs rounds e. let h = accepts pairs rounds e in
            let (few_rounds, few_pairs) = list_within s h.admitted h.is in (omega (arith, h.many), omega (arith, h.made));
        eight = λ a room. rw (told.replied, list_of_rounds s found a room) (eight_listed s a);
        seven = rw told.replied (list_refuses s found).seven;
        returns_zero = rw told.replied (list_refuses s found).returns_zero;
        as_found = list_left_as_found s (list s) found r left told;
      }
