-- "AND PRINTS AS BEFORE": WHAT IS PRINTED OF AN ADMITTED SHEET is the refusal, or the listed pairs, "the last recorded plan" and the count, as the
-- rounds give them. Assumes nothing.
use Rattle.std.specs.Prelude.{◌≡◌, refl, List, ℕ, ◌*◌, ℤ, length, take, drop}
use Rattle.std.proofs.Common.{ap, ◌∙◌, arith, take_at}
use Rattle.numbers.specs.Over.{over}
use Rattle.model.specs.Sheet.{Sheet}
use Rattle.model.specs.Limits.{numbers_a_pair, numbers_a_train}
use Rattle.model.specs.Lateness.{Pair}
use Rattle.model.specs.Admission.{Admitted}
use Rattle.model.specs.declared.Refusal.{Refusal}
use Rattle.std.specs.Prelude.{Ok, Err}
use Rattle.model.specs.Replies.{ListReply}
use Rattle.rounds.specs.Recording.{Entry}
use Rattle.rounds.specs.Answers.{Answer, refused, given, Listing, list, last_arrival_in}
use Rattle.rounds.specs.Areas.{PlanAreas, ListRoom, list_reply, pair_numbers, plan_times, plan_left}
use Rattle.rounds.proofs.BoundLaws.{bound_most}
use Rattle.rounds.proofs.AreaLaws.{pair_numbers_length, plan_times_length}
use Rattle.rounds.specs.EntryPlan.{EntryPlan, EntryBooked}
use Rattle.rounds.proofs.AimLaws.{whole}
use Rattle.rounds.proofs.ChosenLaws.{chosen_so}
use Rattle.rounds.proofs.ChoosingLaws.{booked_chosen, last_recorded_chosen}
use Rattle.fields.specs.declared.NamePlaces.{NamePlaces}
use Rattle.planner.specs.Listing.{ListingCall}
use Rattle.planner.proofs.ListingLaws.{list_of_rounds}
use Rattle.layout.specs.Lines.{refusal_line}
use Rattle.desk.specs.Printing.{PlanBytes, ListBytes, SheetBytes}
use Rattle.desk.proofs.ListedLaws.{HasListed, has_listed, last_answered}
use Rattle.desk.specs.AnswerBytes.{last_recorded, answer_bytes}

-- the last recorded plan is a schedule, and its windows are those of its departures
pub last_planned : (s : Sheet) → Admitted s → {l : Listing} → list s ≡ given l → EntryPlan s (last_recorded s) × EntryBooked s (last_recorded s)
last_planned s a {l} u =
    let wish = last_arrival_in l.pairs in
    let is = last_recorded_chosen s (whole s a) u in
    ((chosen_so s (whole s a) wish is).plan, booked_chosen s (whole s a) wish is)

-- ---- the fronts of the areas are what was written

front_pairs : (ps : List Pair) (count : ℕ) (left found : List ℤ) → count ≡ length ps → left ≡ over (pair_numbers ps) found
    → take (numbers_a_pair * count) left ≡ pair_numbers ps
front_pairs ps count left found many area =
    rw (area, many) (take_at (pair_numbers ps) (drop (length (pair_numbers ps)) found) (numbers_a_pair * length ps) (pair_numbers_length ps))

module _ (s : Sheet) (e : Entry) (own : EntryPlan s e) (left lent : PlanAreas) (is : left ≡ plan_left s (given e) lent) where
  abbrev times : List ℕ
  times = plan_times s e.plan

  front_trains : take s.orders left.trains ≡ e.plan.train
  unfolding plan_left
  front_trains = rw is (take_at e.plan.train (drop (length e.plan.train) lent.trains) s.orders own.schedule.placed)

  front_times : take (numbers_a_train * s.trains) left.times ≡ times
  unfolding plan_left
  front_times = rw is (take_at times (drop (length times) lent.times) (numbers_a_train * s.trains) (plan_times_length s e.plan))

-- ---- what is printed

module _ (text : List ℕ) (names : NamePlaces) (s : Sheet) where
  abbrev expected : List ℕ
  expected = answer_bytes text names s (list s)

  module _ (bytes : List ℕ) where
    plan_before : (count rounds : ℕ) (pairs found : List ℤ) → HasListed s count rounds pairs found → PlanBytes text names s count rounds pairs bytes
        → bytes ≡ expected
    plan_before count rounds pairs found h p =
        let answer = last_answered s count rounds pairs found h p.lent p.trains_lent p.times_lent in
        let left : p.left ≡ plan_left s (given (last_recorded s)) p.lent =
        p.call.equal.areas_left ∙ ap (λ (x : Answer Entry). plan_left s x p.lent) answer in
        let own = (last_planned s h.admitted h.is).0 in
        p.printed
        ∙ rw (
          front_pairs h.listing.pairs count pairs found h.many h.area,
          front_trains s (last_recorded s) own p.left p.lent left,
          front_times s (last_recorded s) own p.left p.lent left,
          h.counted,
          h.is,
        )
        refl

    pub as_before : Admitted s → SheetBytes text names s bytes → bytes ≡ expected
    unfolding list_reply
    as_before a p = go p.reply p.call p.printed
      where
        room : ListRoom s p.lent
        room = omega (arith, p.pairs_lent, bound_most s a)

        refusal : (q : Refusal) (x : Answer Listing) → Err q ≡ list_reply x → refusal_line q ≡ answer_bytes text names s x
        refusal q (refused r) e = let same : q ≡ r = cc in ap refusal_line same
        refusal q (given l) e = absurd (let z : ◌≡◌ {A = ℕ} 0 1 = cc in omega arith)

        go : (r : ListReply) → ListingCall s r p.left p.lent → ListBytes r text names s p.left bytes → bytes ≡ expected
        go (Err q) call printed = printed ∙ refusal q (list s) (call.equal.replied ∙ ap list_reply (list_of_rounds s p.lent a room))
        go (Ok l) call printed = plan_before l.pairs l.rounds p.left p.lent (has_listed s l.pairs l.rounds p.left p.lent call) printed
