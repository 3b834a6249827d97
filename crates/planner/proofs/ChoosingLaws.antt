-- A CHOOSING CALL THAT IS EQUAL TO THE ROUNDS KEEPS ITS WHOLE CONTRACT. Assumes nothing.
use Rattle.std.specs.Prelude.{◌≡◌, ◌↔◌, Bool, List, ℕ, length}
use Rattle.std.proofs.Math.Path.{refl, ap}
use Rattle.std.proofs.Common.{arith}
use Rattle.model.specs.Sheet.{Sheet}
use Rattle.model.specs.Schedule.{Schedule}
use Rattle.model.specs.Booking.{Booked}
use Rattle.model.specs.ShortTrains.{EmptyTrains}
use Rattle.model.specs.Lateness.{Pair}
use Rattle.model.specs.Refusal.{of_reply, number_of}
use Rattle.model.specs.Admission.{Admitted}
use Rattle.std.specs.Prelude.{Ok, Err}
use Rattle.model.specs.Replies.{Admission, ChoiceReply}
use Rattle.model.specs.declared.Refusal.{Refusal}
use Rattle.model.specs.declared.Refusal.TheVariants.{NoSchedule, WishTooEarly}
use Rattle.rounds.specs.Recording.{Plan, Entry}
use Rattle.rounds.specs.EntryPlan.{EntryPlan, EntryBooked}
use Rattle.rounds.specs.Prompt.{Prompt}
use Rattle.rounds.specs.ChosenPair.{Best, TooEarly}
use Rattle.rounds.specs.Answers.{Answer, refused, given, choose}
use Rattle.rounds.specs.Areas.{PlanAreas, PlanRoom, plan_room, tested, choose_to, choice_reply, plan_left}
use Rattle.rounds.proofs.AreaLaws.{choice_refuses}
use Rattle.rounds.proofs.AimLaws.{whole}
use Rattle.rounds.proofs.ChoiceLaws.{Chose, no_schedule, too_early, choice, chose}
use Rattle.rounds.specs.Told.{ChoiceTold}
use Rattle.front.specs.Chosen.{ChosenListed}
use Rattle.front.proofs.Front.{chosen_plan, chosen_booked, chosen_empty_trains, chosen_prompt, chosen_listed, chosen_best}
use Rattle.front.proofs.Front.{no_schedule_chosen, wish_too_early}
use Rattle.planner.specs.InAreas.{plan_in}
use Rattle.room.proofs.CallLaws.{told_first, told_then}
use Rattle.planner.specs.Choosing.{Gives, ChoosingCall}
use Rattle.planner.proofs.AnsweredCallLaws.{Chooses, choice_past_tests, chooses_so, plan_so, pair_so, entry_so, plan_left_as_found}

-- what the rounds answer to a sheet that passes the tests
pub choice_of_rounds : (s : Sheet) (wish : ℕ) (lent : PlanAreas) → Admitted s → PlanRoom s lent → choose_to s wish lent ≡ choose s wish
unfolding choose_to
choice_of_rounds s wish lent a room = choice_past_tests s (choose s wish) lent a room

-- ---- what is told before the rounds, and after them

module _ (s : Sheet) (wish : ℕ) (lent : PlanAreas) (t : Admission) (is : t ≡ tested s (plan_room s (length lent.trains) (length lent.times))) where
  abbrev room : Bool
  room = plan_room s (length lent.trains) (length lent.times)

  pub told_refused : (f : Refusal) → t ≡ Err f → ChoiceTold s (choose_to s wish lent) (Err f) lent lent
  unfolding choose_to choice_reply plan_left
  told_refused f e = told_first choice_reply (plan_left s) s room (choose s wish) lent t is f e refl

  pub told_rounds : t ≡ Ok tt → (r : ChoiceReply) (left : PlanAreas) → ChoiceTold s (choose s wish) r left lent
      → ChoiceTold s (choose_to s wish lent) r left lent
  unfolding choose_to
  told_rounds e = told_then choice_reply (plan_left s) s room (choose s wish) lent t is e

-- ---- the contract

-- of an admitted sheet the rounds answer with number 8 exactly when there is no schedule, and with 11 exactly when there is one, but none by the wish
module _ (s : Sheet) (a : Admitted s) (wish : ℕ) where
  abbrev told_number : Answer Entry → ℕ
  told_number x = number_of (of_reply (choice_reply x))

  by_eight : (x : Answer Entry) → Chose s (whole s a) wish x → told_number x ≡ 8 → x ≡ refused NoSchedule
  unfolding choice_reply
  by_eight x (no_schedule none) e = refl
  by_eight x (too_early h) e = absurd (omega arith)
  by_eight x (choice h) e = absurd (omega arith)

  by_eleven : (x : Answer Entry) → Chose s (whole s a) wish x → told_number x ≡ 11 → x ≡ refused WishTooEarly
  unfolding choice_reply
  by_eleven x (no_schedule none) e = absurd (omega arith)
  by_eleven x (too_early h) e = refl
  by_eleven x (choice h) e = absurd (omega arith)

  eight_chosen : told_number (choose s wish) ≡ 8 ↔ ((train departure : List ℕ) → ¬ Schedule s train departure)
  unfolding choice_reply
  eight_chosen =
      let (means, gives) = no_schedule_chosen s a wish in
      (λ e. means (by_eight (choose s wish) (chose s (whole s a) wish) e), λ f. ap told_number (gives f))

  eleven_chosen : told_number (choose s wish) ≡ 11 ↔ TooEarly s wish
  unfolding choice_reply
  eleven_chosen =
      let (means, gives) = wish_too_early s a wish in
      (λ e. means (by_eleven (choose s wish) (chose s (whole s a) wish) e), λ f. ap told_number (gives f))

module _ (s : Sheet) (wish : ℕ) (r : ChoiceReply) (left found : PlanAreas) (told : ChoiceTold s (choose_to s wish found) r left found) where
  plan : Admitted s → (e : Entry) → choose s wish ≡ given e → EntryPlan s e
  plan a e u = chosen_plan s a wish u

  booked : Admitted s → (e : Entry) → choose s wish ≡ given e → EntryBooked s e
  booked a e u = chosen_booked s a wish u

  pub accepts : (p : Pair) → Gives r p → Chooses s (choose s wish) left p
  unfolding choose_to
  accepts = chooses_so s (choose s wish) found plan booked r left told

  of_plan : (P : Plan → Type 0) → (Admitted s → (e : Entry) → choose s wish ≡ given e → P e.plan) → (p : Pair) → Gives r p → P (plan_in s left)
  unfolding choose_to
  of_plan = plan_so s (choose s wish) found plan booked r left told

  of_pair : (P : Pair → Type 0) → (Admitted s → (e : Entry) → choose s wish ≡ given e → P e.pair) → (p : Pair) → Gives r p → P p
  unfolding choose_to
  of_pair = pair_so s (choose s wish) found plan booked r left told

  -- THE WHOLE CONTRACT FOLLOWS FROM THE EQUALITY
  pub choosing_call : ChoosingCall s wish r left found
  unfolding choose_to
  choosing_call =
      record {
        equal = told;
        schedule = entry_so s (choose s wish) found plan booked r left told (Schedule s) plan;
        booked = of_plan (λ x. Booked s x.departure x.window) booked;
        empty_trains = of_plan (λ x. EmptyTrains s x.train x.departure) (λ a e u. chosen_empty_trains s a wish u);
        prompt = of_plan (λ x. Prompt s (Schedule s) x.train x.departure) (λ a e u. chosen_prompt s a wish u);
        listed = of_pair (ChosenListed s wish) (λ a e u. chosen_listed s a wish u);
        best = of_pair (Best s wish) (λ a e u. chosen_best s a wish u);
        eight = λ a room. rw (told.replied, choice_of_rounds s wish found a room) (eight_chosen s a wish);
        eleven = λ a room. rw (told.replied, choice_of_rounds s wish found a room) (eleven_chosen s a wish);
        seven = rw told.replied (choice_refuses s wish found).seven;
        returns_zero = rw told.replied (choice_refuses s wish found).returns_zero;
        as_found = plan_left_as_found s (choose s wish) found plan booked r left told;
      }
