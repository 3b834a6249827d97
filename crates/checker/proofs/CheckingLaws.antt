-- A CHECKING CALL THAT IS EQUAL TO ITS DEFINITION KEEPS ITS WHOLE CONTRACT. Assumes nothing.
use Rattle.std.proofs.Math.Path.{◌≡◌, refl, ap}
use Rattle.std.proofs.Common.{sym, ◌∙◌, subst, arith}
use Rattle.std.specs.Prelude.{◌↔◌, ◌⊎◌, true, List, ℕ, ◌≤◌, ◌<◌, ℤ}
use Rattle.std.proofs.Math.Logic.{inl, inr}
use Rattle.std.proofs.Math.ListN.{length}
use Rattle.numbers.specs.DecidesLaws.{test_true, test_means}
use Rattle.numbers.specs.Over.{over}
use Rattle.model.specs.Sheet.{Sheet}
use Rattle.model.specs.Schedule.{Schedule}
use Rattle.model.specs.Lateness.{Pair, pair_of, pair_at}
use Rattle.model.specs.Foreign.{RowsFit, trains_told}
use Rattle.model.specs.Refusal.{of_reply, number_of}
use Rattle.model.specs.Admission.{Admitted}
use Rattle.model.specs.declared.Row.{Row}
use Rattle.model.proofs.ReplyLaws.{same_checked}
use Rattle.model.specs.declared.Checked.{Checked}
use Rattle.model.specs.Replies.{CheckReply}
use Rattle.rounds.specs.ChosenPair.{Unbeaten}
use Rattle.rounds.specs.Answers.{Answer, refused, given}
use Rattle.rounds.specs.Areas.{ListRoom, list_room, pair_numbers, list_left}
use Rattle.rounds.proofs.AreaLaws.{decides_list_room}
use Rattle.rounds.specs.Checking.{Verdict, among, check, check_to, check_reply, check_left}
use Rattle.rounds.proofs.CheckingLaws.{Judged, wrong_rows, rule_broken, yes, judged, check_refuses, check_as_found}
use Rattle.rounds.specs.Told.{CheckTold}
use Rattle.rounds.specs.ListedPairs.{Front}
use Rattle.front.proofs.Front.{listed_is_front, SaidYes, says_yes, says_yes_to, listed_unbeaten}
use Rattle.planner.specs.InAreas.{pairs_in}
use Rattle.planner.proofs.InAreasLaws.{pairs_read}
use Rattle.room.proofs.CallLaws.{passed, passes, answer_granted, accepted}
use Rattle.checker.specs.Checking.{SaysYes, IsSchedule, CheckingCall}

-- what is answered to a sheet that passes the tests
pub check_of_rows : (s : Sheet) (departure : List ℕ) (rows : List Row) (lent : List ℤ) → Admitted s → ListRoom s lent
    → check_to s departure rows lent ≡ check s departure rows
unfolding check_to
check_of_rows s departure rows lent a room =
    answer_granted s (list_room s (length lent)) (check s departure rows) (passes s _ a (test_true (decides_list_room s lent) room))

-- ---- 12 and 13, of an admitted sheet

module _ (s : Sheet) (departure : List ℕ) (rows : List Row) where
  abbrev told_number : Answer Verdict → ℕ
  told_number x = number_of (of_reply (check_reply x))

  twelve_told : (x : Answer Verdict) → Judged s departure rows x → told_number x ≡ 12 ↔ (¬ RowsFit s departure rows)
  unfolding check_reply
  twelve_told x (wrong_rows f) = (λ e. f, λ g. refl)
  twelve_told x (rule_broken f h) = (λ e. absurd (omega arith), λ g. absurd (g f))
  twelve_told x (yes f h l is) = (λ e. absurd (omega arith), λ g. absurd (g f))

  thirteen_told : RowsFit s departure rows → (x : Answer Verdict) → Judged s departure rows x
      → told_number x ≡ 13 ↔ (¬ Schedule s (trains_told s.orders rows) departure)
  unfolding check_reply
  thirteen_told f x (wrong_rows g) = absurd (g f)
  thirteen_told f x (rule_broken g h) = (λ e. h, λ no. refl)
  thirteen_told f x (yes g h l is) = (λ e. absurd (omega arith), λ no. absurd (no h))

  -- what is told is a yes, 12 or 13
  told_so : (x : Answer Verdict) → Judged s departure rows x → SaysYes (check_reply x) ⊎ ((told_number x ≡ 12) ⊎ (told_number x ≡ 13))
  unfolding check_reply
  told_so x (wrong_rows f) = inr (inl refl)
  told_so x (rule_broken f h) = inr (inr refl)
  told_so x (yes f h l is) =
      inl
      (record {
        pair = pair_of s (trains_told s.orders rows) departure;
        listed = among (pair_of s (trains_told s.orders rows) departure) l.pairs;
        pairs = length l.pairs;
        rounds = l.rounds;
        is = refl;
      })

module _ (s : Sheet) (departure : List ℕ) (rows : List Row) (r : CheckReply) (left found : List ℤ)
    (told : CheckTold (check_to s departure rows found) r left found) where
  -- an accepted call's verdict: the sheet is admitted, the area has room, and what is told is the verdict's
  record Accepted (y : SaysYes r) : Type 0 where
    admitted : Admitted s
    room : ListRoom s found
    verdict : Verdict
    is : check s departure rows ≡ given verdict
    pair : verdict.pair ≡ y.pair
    listed : verdict.is_listed ≡ y.listed
    list : pairs_in y.pairs left ≡ verdict.listing.pairs
    many : length verdict.listing.pairs ≡ y.pairs

  same_pair : {last last₀ : ℕ} {worst worst₀ : ℤ} → last ≡ last₀ → worst ≡ worst₀ → ◌≡◌ {A = Pair} (record { last = last; worst = worst })
      (record { last = last₀; worst = worst₀ })
  same_pair u v = rw (u, v) refl

  accepts : (y : SaysYes r) → Accepted y
  unfolding check_to check_reply check_left list_left
  accepts y = go (check_to s departure rows found) refl told.replied
    where
      go : (x : Answer Verdict) → check_to s departure rows found ≡ x → r ≡ check_reply x → Accepted y
      go (refused f) u w = absurd (let e = y.is in let z : ◌≡◌ {A = ℕ} 0 1 = cc in omega arith)
      go (given v) u w =
          let e = y.is in
          let told_so : Checked =
          record {
            last = v.pair.last;
            worst = v.pair.worst;
            listed = v.is_listed;
            pairs = length v.listing.pairs;
            rounds = v.listing.rounds;
          } in
          let said_so : Checked =
          record { last = y.pair.last; worst = y.pair.worst; listed = y.listed; pairs = y.pairs; rounds = y.rounds } in
          let same = same_checked told_so said_so (sym w ∙ e) in
          let many = same.pairs in
          let room = list_room s (length found) in
          let (granted, is) = accepted s room (check s departure rows) u in
          let (a, long) = passed s room granted in
          let written = over (pair_numbers v.listing.pairs) found in
          let here : left ≡ written = told.areas_left ∙ ap (λ (x : Answer Verdict). check_left x found) u in
          record {
            admitted = a;
            room = test_means (decides_list_room s found) long;
            verdict = v;
            is = is;
            pair = same_pair same.last same.worst;
            listed = same.listed;
            list = ap (pairs_in y.pairs) here ∙ (ap (λ (k : ℕ). pairs_in k written) (sym many) ∙ pairs_read v.listing.pairs found);
            many = many;
          }

  -- what the verdict says
  said : (y : SaysYes r) → SaidYes s departure rows (accepts y).verdict
  said y = let c = accepts y in says_yes s c.admitted departure rows c.is

  says : IsSchedule s departure rows found → SaysYes r
  unfolding check_reply
  says h =
      let (v, e) = (says_yes_to s h.admitted departure rows).1 (h.fit, h.schedule) in
      record {
        pair = v.pair;
        listed = v.is_listed;
        pairs = length v.listing.pairs;
        rounds = v.listing.rounds;
        is = told.replied ∙ ap check_reply (check_of_rows s departure rows found h.admitted h.room ∙ e);
      }

  schedule : SaysYes r ↔ IsSchedule s departure rows found
  schedule = (
    λ y. let c = accepts y in let h = said y in
        record { admitted = c.admitted; room = c.room; fit = h.fit; schedule = h.schedule },
    says,
  )

  -- the list in the area has the verdict's pair where the list does
  listed : (y : SaysYes r) → y.listed ≡ true ↔ ((k : ℕ) × (k < y.pairs) × (pair_at (pairs_in y.pairs left) k ≡ y.pair))
  listed y =
      let c = accepts y in
      let h = (said y).listed in (
        λ e. let (k, l, u) = h.0 (c.listed ∙ e) in
            (k, omega (arith, c.many), ap (λ (ps : List Pair). pair_at ps k) c.list ∙ (u ∙ c.pair)),
        λ (k, l, u). sym c.listed ∙ h.1 (k, omega (arith, c.many), ap (λ (ps : List Pair). pair_at ps k) (sym c.list) ∙ (u ∙ sym c.pair)),
      )

  unbeaten : (y : SaysYes r) → y.listed ≡ true ↔ Unbeaten s y.pair
  unbeaten y =
      let c = accepts y in
      let h = listed_unbeaten s c.admitted departure rows c.is in
      (λ e. subst (Unbeaten s) c.pair (h.0 (c.listed ∙ e)), λ u. sym c.listed ∙ h.1 (subst (Unbeaten s) (sym c.pair) u))

  -- THE WHOLE CONTRACT FOLLOWS FROM THE EQUALITY
  pub checking_call : CheckingCall s departure rows r left found
  checking_call =
      record {
        equal = told;
        schedule = schedule;
        pair = λ y. sym (accepts y).pair ∙ (said y).pair;
        listed = listed;
        unbeaten = unbeaten;
        front = λ y. let c = accepts y in subst (Front s) (sym c.list) (listed_is_front s c.admitted (said y).is_list);
        twelve = λ a room. rw (told.replied, check_of_rows s departure rows found a room)
            (twelve_told s departure rows (check s departure rows) (judged s departure rows a));
        thirteen = λ a room f. rw (told.replied, check_of_rows s departure rows found a room)
            (thirteen_told s departure rows f (check s departure rows) (judged s departure rows a));
        answered = λ a room. rw (told.replied, check_of_rows s departure rows found a room)
            (told_so s departure rows (check s departure rows) (judged s departure rows a));
        seven = rw told.replied (check_refuses s departure rows found).seven;
        returns_zero = rw told.replied (check_refuses s departure rows found).returns_zero;
        as_found = λ l. told.areas_left
            ∙ check_as_found (check_to s departure rows found) found (subst (λ (x : CheckReply). 1 ≤ number_of (of_reply x)) told.replied l);
      }
