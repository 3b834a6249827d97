-- A CALL THAT IS EQUAL TO THE ROUNDS BEHIND THE GONE TRAINS KEEPS ITS WHOLE CONTRACT. Assumes nothing.
use Rattle.std.proofs.Math.Path.{◌≡◌, ap, subst}
use Rattle.std.proofs.Common.{sym, ◌∙◌, inl, inr, arith}
use Rattle.std.specs.Prelude.{◌⊎◌, List, ℕ, ℤ, length}
use Rattle.numbers.specs.DecidesLaws.{decided}
use Rattle.model.specs.Sheet.{Sheet}
use Rattle.model.specs.Booking.{Booked}
use Rattle.model.specs.Lateness.{Pair}
use Rattle.model.specs.Refusal.{of_reply, number_of}
use Rattle.model.specs.Admission.{Admitted}
use Rattle.model.specs.Gone.{Gone, Begins, EmptyTrainsBehind, WentWell}
use Rattle.model.proofs.GoneTestLaws.{decides_went_well}
use Rattle.model.specs.Replies.{ListReply, ChoiceReply, listed_as}
use Rattle.rounds.specs.Recording.{Plan, Entry}
use Rattle.rounds.specs.EntryPlan.{EntryPlanAmong, EntryPlan, EntryBooked}
use Rattle.rounds.specs.Prompt.{Prompt}
use Rattle.rounds.specs.ListedPairs.{FrontAmong}
use Rattle.rounds.specs.ChosenPair.{BestAmong}
use Rattle.rounds.specs.Answers.{given, Listing, list_from, choose_from}
use Rattle.rounds.specs.Areas.{PlanAreas, ListRoom, PlanRoom, list_reply, choice_reply}
use Rattle.rounds.proofs.AreaLaws.{listing_told, choice_told}
use Rattle.rounds.specs.Replan.{behind, relist, rechoose, relist_to, rechoose_to}
use Rattle.rounds.proofs.ReplanLaws.{wrong, relist_refuses, rechoice_refuses}
use Rattle.rounds.specs.Told.{ListTold, ChoiceTold}
use Rattle.front.specs.Chosen.{LastListed}
use Rattle.front.proofs.Replanned.{gone_wrong, gone_wrong_chosen, replanned_is_front, front_is_replanned, no_such_schedule, replanned_within}
use Rattle.front.proofs.Replanned.{no_such_schedule_chosen, wish_too_early, chosen_begins, chosen_windows, chosen_empty_trains, chosen_prompt}
use Rattle.front.proofs.Replanned.{chosen_listed, chosen_best}
use Rattle.planner.specs.InAreas.{plan_in}
use Rattle.planner.specs.Choosing.{Gives}
use Rattle.planner.proofs.AnsweredCallLaws.{Lists, list_past_tests, lists_so, list_left_as_found}
use Rattle.planner.proofs.AnsweredCallLaws.{choice_past_tests, plan_so, pair_so, entry_so, plan_left_as_found}
use Rattle.replan.specs.Relisting.{RelistingCall}
use Rattle.replan.specs.Rechoosing.{RechoosingCall}
use Rattle.replan.proofs.OutcomeLaws.{its_number, numbered, by_eight, by_eleven, by_twenty_one, list_outcome, choice_outcome}

module _ (s : Sheet) (g : Gone) where
  -- an answer that is given has passed 21
  list_well : {l : Listing} → relist s g ≡ given l → WentWell s g
  unfolding relist
  list_well {l} e = go (decided (decides_went_well s g))
    where
      go : WentWell s g ⊎ (¬ WentWell s g) → WentWell s g
      go (inl w) = w
      go (inr u) = absurd (let v = wrong s g (list_from s (behind s g)) u in let z : ◌≡◌ {A = ℕ} 0 1 = cc in omega arith)

  choice_well : (wish : ℕ) {e : Entry} → rechoose s g wish ≡ given e → WentWell s g
  unfolding rechoose
  choice_well wish {e} h = go (decided (decides_went_well s g))
    where
      go : WentWell s g ⊎ (¬ WentWell s g) → WentWell s g
      go (inl w) = w
      go (inr u) = absurd (let v = wrong s g (choose_from s (behind s g) wish) u in let z : ◌≡◌ {A = ℕ} 0 1 = cc in omega arith)

-- ---- listing

module _ (s : Sheet) (g : Gone) (r : ListReply) (left found : List ℤ) (told : ListTold (relist_to s g found) r left found) where
  accepts : (pairs rounds : ℕ) → r ≡ listed_as pairs rounds → Lists s (relist s g) left pairs rounds
  unfolding relist_to
  accepts = lists_so s (relist s g) found r left told

  -- past the tests of listing
  replies : Admitted s → ListRoom s found → r ≡ list_reply (relist s g)
  unfolding relist_to
  replies a room = told.replied ∙ ap list_reply (list_past_tests s (relist s g) found a room)

  lists : Admitted s → ListRoom s found → WentWell s g → ((train : List ℕ) × (departure : List ℕ) × Begins s g train departure)
      → (pairs : ℕ) × (rounds : ℕ) × (r ≡ listed_as pairs rounds)
  unfolding list_reply
  lists a room w (train, departure, h) =
      let (l, is, front) = front_is_replanned s a g w train departure h in (length l.pairs, l.rounds, replies a room ∙ ap list_reply is)

  -- it tells the number of the answer
  told_number : Admitted s → ListRoom s found → number_of (of_reply r) ≡ its_number (relist s g)
  told_number a room = ap (λ (x : ListReply). number_of (of_reply x)) (replies a room) ∙ ap number_of (listing_told (relist s g))

  pub listing_call : RelistingCall s g r left found
  unfolding relist_to
  listing_call =
      record {
        equal = told;
        front = λ pairs rounds e. let h = accepts pairs rounds e in
            subst (FrontAmong s (Begins s g)) (sym h.read) (replanned_is_front s h.admitted g (list_well s g h.is) h.is);
        lists = lists;
        within = λ pairs rounds e. let h = accepts pairs rounds e in
            let (few_rounds, few_pairs) = replanned_within s h.admitted g (list_well s g h.is) h.is in
            (omega (arith, h.many), omega (arith, h.made));
        twenty_one = λ a room. rw (told_number a room) (numbered (by_twenty_one (relist s g) (list_outcome s a g)) (gone_wrong s a g));
        eight = λ a room w. rw (told_number a room) (numbered (by_eight (relist s g) (list_outcome s a g)) (no_such_schedule s a g w));
        seven = rw told.replied (relist_refuses s g found).seven;
        returns_zero = rw told.replied (relist_refuses s g found).returns_zero;
        as_found = list_left_as_found s (relist s g) found r left told;
      }

-- ---- choosing

module _ (s : Sheet) (g : Gone) (wish : ℕ) (r : ChoiceReply) (left found : PlanAreas) (told : ChoiceTold s (rechoose_to s g wish found) r left found) where
  begins : Admitted s → (e : Entry) → rechoose s g wish ≡ given e → EntryPlanAmong s (Begins s g) e
  begins a e u = chosen_begins s a g (choice_well s g wish u) wish u

  plan : Admitted s → (e : Entry) → rechoose s g wish ≡ given e → EntryPlan s e
  plan a e u =
      let own = begins a e u in record { schedule = own.schedule.schedule; arrives = own.arrives; arrivals = own.arrivals; pair = own.pair }

  booked : Admitted s → (e : Entry) → rechoose s g wish ≡ given e → EntryBooked s e
  booked a e u = chosen_windows s a g (choice_well s g wish u) wish u

  of_plan : (P : Plan → Type 0) → (Admitted s → WentWell s g → (e : Entry) → rechoose s g wish ≡ given e → P e.plan) → (p : Pair) → Gives r p
      → P (plan_in s left)
  unfolding rechoose_to
  of_plan P h = plan_so s (rechoose s g wish) found plan booked r left told P (λ a e u. h a (choice_well s g wish u) e u)

  of_pair : (P : Pair → Type 0) → (Admitted s → WentWell s g → (e : Entry) → rechoose s g wish ≡ given e → P e.pair) → (p : Pair) → Gives r p → P p
  unfolding rechoose_to
  of_pair P h = pair_so s (rechoose s g wish) found plan booked r left told P (λ a e u. h a (choice_well s g wish u) e u)

  -- past the tests of choosing it tells the number of the answer
  chosen_number : Admitted s → PlanRoom s found → number_of (of_reply r) ≡ its_number (rechoose s g wish)
  unfolding rechoose_to
  chosen_number a room =
      ap (λ (x : ChoiceReply). number_of (of_reply x)) (told.replied ∙ ap choice_reply (choice_past_tests s (rechoose s g wish) found a room))
      ∙ ap number_of (choice_told (rechoose s g wish))

  pub choosing_call : RechoosingCall s g wish r left found
  unfolding rechoose_to
  choosing_call =
      record {
        equal = told;
        begins = entry_so s (rechoose s g wish) found plan booked r left told (Begins s g) begins;
        booked = of_plan (λ x. Booked s x.departure x.window) (λ a w. booked a);
        empty_trains = of_plan (λ x. EmptyTrainsBehind s g x.train x.departure) (λ a w e u. chosen_empty_trains s a g w wish u);
        prompt = of_plan (λ x. Prompt s (Begins s g) x.train x.departure) (λ a w e u. chosen_prompt s a g w wish u);
        listed = of_pair (LastListed (relist s g) wish) (λ a w e u. chosen_listed s a g w wish u);
        best = of_pair (BestAmong s (Begins s g) wish) (λ a w e u. chosen_best s a g w wish u);
        twenty_one = λ a room.
            rw (chosen_number a room) (numbered (by_twenty_one (rechoose s g wish) (choice_outcome s a g wish)) (gone_wrong_chosen s a g wish));
        eight = λ a room w.
            rw (chosen_number a room) (numbered (by_eight (rechoose s g wish) (choice_outcome s a g wish)) (no_such_schedule_chosen s a g w wish));
        eleven = λ a room w.
            rw (chosen_number a room) (numbered (by_eleven (rechoose s g wish) (choice_outcome s a g wish)) (wish_too_early s a g w wish));
        seven = rw told.replied (rechoice_refuses s g wish found).seven;
        returns_zero = rw told.replied (rechoice_refuses s g wish found).returns_zero;
        as_found = plan_left_as_found s (rechoose s g wish) found plan booked r left told;
      }
