-- A CALL THAT IS EQUAL TO AN ANSWER BEHIND THE TESTS: what its reply and its areas say, whatever the answer is. Assumes nothing.
use Rattle.std.proofs.Math.Path.{◌≡◌, refl, ap}
use Rattle.std.proofs.Common.{sym, ◌∙◌, subst, arith}
use Rattle.std.specs.Prelude.{List, ℕ, ◌≤◌, ℤ}
use Rattle.std.proofs.Math.ListN.{length}
use Rattle.numbers.specs.DecidesLaws.{test_true}
use Rattle.numbers.specs.Over.{over}
use Rattle.model.specs.Sheet.{Sheet}
use Rattle.model.specs.Schedule.{Schedules}
use Rattle.model.specs.Lateness.{Pair}
use Rattle.model.specs.Refusal.{of_reply, number_of}
use Rattle.model.specs.Admission.{Admitted}
use Rattle.model.proofs.ReplyLaws.{same_listed, same_chosen}
use Rattle.model.specs.Replies.{ListReply, ChoiceReply, listed_as}
use Rattle.rounds.specs.Recording.{Plan, Entry}
use Rattle.rounds.specs.EntryPlan.{EntryPlanAmong, EntryPlan, EntryBooked}
use Rattle.rounds.specs.Answers.{Answer, refused, given, Listing}
use Rattle.rounds.specs.Areas.{ListRoom, list_room, PlanAreas, PlanRoom, plan_room, tested, after_tests}
use Rattle.rounds.specs.Areas.{list_reply, pair_numbers, list_left, choice_reply, plan_left}
use Rattle.rounds.proofs.AreaLaws.{decides_list_room, decides_plan_room, list_as_found, plan_as_found}
use Rattle.rounds.specs.Told.{ListTold, ChoiceTold}
use Rattle.planner.specs.InAreas.{pairs_in, plan_in}
use Rattle.planner.proofs.InAreasLaws.{pairs_read, plan_read}
use Rattle.planner.specs.Choosing.{Gives}
use Rattle.room.proofs.CallLaws.{passed, passes, answer_granted, accepted}

-- ---- listing

-- an accepted call's listing, which is in the area
pub record Lists (s : Sheet) (x : Answer Listing) (left : List ℤ) (pairs rounds : ℕ) : Type 0 where
  pub listing : Listing
  pub admitted : Admitted s
  pub is : x ≡ given listing
  pub many : pairs ≡ length listing.pairs
  pub made : rounds ≡ listing.rounds
  pub read : pairs_in pairs left ≡ listing.pairs

module _ (s : Sheet) (x : Answer Listing) (found : List ℤ) where
  -- the first test that fails, else the answer
  abbrev pub ListedTo : Answer Listing
  ListedTo = after_tests (tested s (list_room s (length found))) x

  pub list_past_tests : Admitted s → ListRoom s found → ListedTo ≡ x
  list_past_tests a room = answer_granted s (list_room s (length found)) x (passes s _ a (test_true (decides_list_room s found) room))

  module _ (r : ListReply) (left : List ℤ) (told : ListTold ListedTo r left found) where
    pub lists_so : (pairs rounds : ℕ) → r ≡ listed_as pairs rounds → Lists s x left pairs rounds
    unfolding list_reply list_left
    lists_so pairs rounds e = go ListedTo refl told.replied
      where
        go : (y : Answer Listing) → ListedTo ≡ y → r ≡ list_reply y → Lists s x left pairs rounds
        go (refused f) u v = absurd (let z : ◌≡◌ {A = ℕ} 0 1 = cc in omega arith)
        go (given l) u v =
            let (granted, is) = accepted s (list_room s (length found)) x u in
            let (many, made) =
            same_listed (record { pairs = pairs; rounds = rounds }) (record { pairs = length l.pairs; rounds = l.rounds }) (sym e ∙ v) in
            let written = over (pair_numbers l.pairs) found in
            let here : left ≡ written = told.areas_left ∙ ap (λ (y : Answer Listing). list_left y found) u in
            record {
              listing = l;
              admitted = (passed s (list_room s (length found)) granted).0;
              is = is;
              many = many;
              made = made;
              read = ap (pairs_in pairs) here ∙ ap (λ (k : ℕ). pairs_in k written) many ∙ pairs_read l.pairs found;
            }

    pub list_left_as_found : 1 ≤ number_of (of_reply r) → left ≡ found
    list_left_as_found l = told.areas_left ∙ list_as_found ListedTo found (subst (λ (y : ListReply). 1 ≤ number_of (of_reply y)) told.replied l)

-- ---- choosing, where the plan of the answer is known as a schedule and booked

-- an accepted call's entry: its pair is the one given, and its plan is in the areas
pub record Chooses (s : Sheet) (x : Answer Entry) (left : PlanAreas) (p : Pair) : Type 0 where
  pub admitted : Admitted s
  pub entry : Entry
  pub is : x ≡ given entry
  pub pair : entry.pair ≡ p
  pub plan : plan_in s left ≡ entry.plan

module _ (s : Sheet) (x : Answer Entry) (found : PlanAreas) where
  abbrev pub ChosenTo : Answer Entry
  ChosenTo = after_tests (tested s (plan_room s (length found.trains) (length found.times))) x

  pub choice_past_tests : Admitted s → PlanRoom s found → ChosenTo ≡ x
  choice_past_tests a room =
      answer_granted s (plan_room s (length found.trains) (length found.times)) x (passes s _ a (test_true (decides_plan_room s found) room))

  module _ (plan : Admitted s → (e : Entry) → x ≡ given e → EntryPlan s e) (booked : Admitted s → (e : Entry) → x ≡ given e → EntryBooked s e)
      (r : ChoiceReply) (left : PlanAreas) (told : ChoiceTold s ChosenTo r left found) where
    same_pair : {last last₀ : ℕ} {worst worst₀ : ℤ} → last ≡ last₀ → worst ≡ worst₀ → ◌≡◌ {A = Pair} (record { last = last; worst = worst })
        (record { last = last₀; worst = worst₀ })
    same_pair u v = rw (u, v) refl

    pub chooses_so : (p : Pair) → Gives r p → Chooses s x left p
    unfolding choice_reply
    chooses_so p g = go ChosenTo refl told.replied
      where
        go : (y : Answer Entry) → ChosenTo ≡ y → r ≡ choice_reply y → Chooses s x left p
        go (refused f) u v = absurd (let z : ◌≡◌ {A = ℕ} 0 1 = cc in omega arith)
        go (given e) u v =
            let (last, worst) =
            same_chosen (record { last = e.pair.last; worst = e.pair.worst }) (record { last = p.last; worst = p.worst }) (sym v ∙ g) in
            let (granted, is) = accepted s (plan_room s (length found.trains) (length found.times)) x u in
            let a = (passed s (plan_room s (length found.trains) (length found.times)) granted).0 in
            let here : left ≡ plan_left s (given e) found = told.areas_left ∙ ap (λ (y : Answer Entry). plan_left s y found) u in
            record {
              admitted = a;
              entry = e;
              is = is;
              pair = same_pair last worst;
              plan = rw here (plan_read s e found (plan a e is) (booked a e is));
            }

    -- what holds of the plan of the answer holds of the plan in the areas
    pub plan_so : (P : Plan → Type 0) → (Admitted s → (e : Entry) → x ≡ given e → P e.plan) → (p : Pair) → Gives r p → P (plan_in s left)
    plan_so P h p g = let c = chooses_so p g in subst P (sym c.plan) (h c.admitted c.entry c.is)

    -- and of its pair, of the pair that is given
    pub pair_so : (P : Pair → Type 0) → (Admitted s → (e : Entry) → x ≡ given e → P e.pair) → (p : Pair) → Gives r p → P p
    pair_so P h p g = let c = chooses_so p g in subst P c.pair (h c.admitted c.entry c.is)

    -- and so the entry
    pub entry_so : (Among : Schedules) → (Admitted s → (e : Entry) → x ≡ given e → EntryPlanAmong s Among e) → (p : Pair) → Gives r p
        → EntryPlanAmong s Among (record { pair = p; plan = plan_in s left })
    entry_so Among h p g =
        let c = chooses_so p g in
        subst (λ (y : Plan). EntryPlanAmong s Among (record { pair = p; plan = y })) (sym c.plan)
        (subst (λ (y : Pair). EntryPlanAmong s Among (record { pair = y; plan = c.entry.plan })) c.pair (h c.admitted c.entry c.is))

    pub plan_left_as_found : 1 ≤ number_of (of_reply r) → left ≡ found
    plan_left_as_found l =
        told.areas_left ∙ plan_as_found s ChosenTo found (subst (λ (y : ChoiceReply). 1 ≤ number_of (of_reply y)) told.replied l)
