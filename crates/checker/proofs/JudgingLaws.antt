-- From the parts of the checker to its definition: tests 12 and 13, and the pair beside the list. Assumes nothing.
use Rattle.std.proofs.Math.Path.{◌≡◌, refl, ap}
use Rattle.std.proofs.Common.{sym, ◌∙◌, arith, length-append}
use Rattle.std.specs.Prelude.{Bool, not, ◌&&◌, ℕ, ◌*◌, ◌≤◌, eqb, ℤ, length, take, drop}
use Rattle.std.proofs.Math.Bool.{true, false, cond}
use mathlib.Core.List.{List}
use borrow.Author.Tests.{eqb-true, not-true, not-false}
use Rattle.numbers.specs.DecidesLaws.{and_true}
use Rattle.numbers.specs.CountingLaws.{some_same_below}
use Rattle.numbers.specs.Over.{over}
use Rattle.model.specs.Sheet.{Sheet}
use Rattle.model.specs.Limits.{◌–◌, numbers_a_pair}
use Rattle.model.specs.Lateness.{Pair, pair_of, pair_at}
use Rattle.model.specs.ScheduleTest.{is_schedule}
use Rattle.model.specs.Foreign.{rows_fit, trains_told}
use Rattle.model.specs.Admission.{Admitted}
use Rattle.model.specs.declared.Row.{Row}
use Rattle.std.specs.Prelude.{Ok, Err}
use Rattle.model.proofs.ReplyLaws.{same_chosen, same_listed}
use Rattle.model.specs.Replies.{Admission, ListReply, CheckReply, checked_as, ChoiceReply}
use Rattle.model.specs.declared.Refusal.{Refusal}
use Rattle.model.specs.declared.Refusal.TheVariants.{WrongRows, RuleBroken}
use Rattle.rounds.specs.Answers.{Answer, refused, given, Listing, list}
use Rattle.rounds.specs.Areas.{list_room, tested, after_tests, list_to, list_reply, list_left, pair_numbers}
use Rattle.rounds.proofs.AreaLaws.{pair_numbers_length}
use Rattle.rounds.specs.Checking.{same_pair, among, beside, judge, check, check_to, check_reply, check_left}
use Rattle.rounds.specs.Told.{ListTold, CheckTold}
use Rattle.planner.proofs.InAreasLaws.{numbers_read}
use Rattle.room.proofs.CallLaws.{answer_granted, told_first, told_then}
use Rattle.foreign.specs.Gathered.{gathered, column_fits}
use Rattle.foreign.proofs.GatheredLaws.{fits_rows, column_told}
use Rattle.foreign.specs.declared.Given.{Given}
use Rattle.checker.specs.Judging.{kept, judged_so, pair_here, listed_in, InArea, beside_reply}

-- ---- tests 12 and 13, of what is gathered from rows

-- where test 12 is passed there are as many departures as trains, and the column fits
module _ (s : Sheet) (departure : List ℕ) (g : Given) (b : Bool) (is : b ≡ column_fits s.orders s.trains g)
    (f : not (eqb (length departure) s.trains && b) ≡ false) where
  both : (eqb (length departure) s.trains ≡ true) × (b ≡ true)
  both = and_true (eqb (length departure) s.trains) b (not-false (eqb (length departure) s.trains && b) f)

  pub counted : length departure ≡ s.trains
  counted = eqb-true (length departure) s.trains both.0

  pub column_passed : column_fits s.orders s.trains g ≡ true
  column_passed = sym is ∙ both.1

module _ (s : Sheet) (a : Admitted s) (departure : List ℕ) (rows : List Row) (g : Given) (gives : g ≡ gathered rows (length rows)) (b : Bool)
    (is : b ≡ column_fits s.orders s.trains g) where
  abbrev told : List ℕ
  told = trains_told s.orders rows

  abbrev fit : Bool
  fit = eqb (length departure) s.trains && b

  fit_is : rows_fit s departure rows ≡ fit
  fit_is = rw (is, gives) (fits_rows s a.few.orders a.few.trains departure rows)

  by_fit : (c : Bool) (x y : ChoiceReply) → rows_fit s departure rows ≡ c → cond c x y ≡ cond (rows_fit s departure rows) x y
  by_fit c x y u = ap (λ (t : Bool). cond t x y) (sym u)

  pub wrong_rows : not fit ≡ true → Err WrongRows ≡ judged_so s departure rows
  unfolding judged_so
  wrong_rows f = by_fit false _ _ (fit_is ∙ not-true fit f)

  -- and it is passed, beside the departures in a column
  module _ (f : not fit ≡ false) (column : List ℕ) (copied : take (length departure) column ≡ departure) where
    trains : take s.orders g.train ≡ told
    trains =
        ap (λ (x : Given). take s.orders x.train) gives
        ∙ column_told s.orders (1 – s.trains) a.few.orders rows
        (ap (column_fits s.orders s.trains) (sym gives) ∙ column_passed s departure g b is f)

    departures : take s.trains column ≡ departure
    departures = ap (λ (q : ℕ). take q column) (sym (counted s departure g b is f)) ∙ copied

    test_at : (t : Bool) → t ≡ is_schedule s (take s.orders g.train) (take s.trains column) → is_schedule s told departure ≡ t
    test_at t u = sym (u ∙ (ap (λ (x : List ℕ). is_schedule s x (take s.trains column)) trains ∙ ap (is_schedule s told) departures))

    by_rules : (d : Bool) (x y z : ChoiceReply) → is_schedule s told departure ≡ d
        → cond d x y ≡ cond (rows_fit s departure rows) (cond (is_schedule s told departure) x y) z
    by_rules d x y z u = ap (λ (t : Bool). cond t x y) (sym u) ∙ by_fit true _ z (fit_is ∙ not-false fit f)

    pub rule_broken : (t : Bool) → t ≡ is_schedule s (take s.orders g.train) (take s.trains column) → not t ≡ true
        → Err RuleBroken ≡ judged_so s departure rows
    unfolding judged_so
    rule_broken t u v = by_rules false _ _ _ (test_at t u ∙ not-true t v)

    pub all_kept : (t : Bool) → t ≡ is_schedule s (take s.orders g.train) (take s.trains column) → not t ≡ false
        → (p : Pair) → p ≡ pair_of s (take s.orders g.train) (take s.trains column) → kept p ≡ judged_so s departure rows
    unfolding judged_so
    all_kept t u v p own =
        let same : p ≡ pair_of s told departure =
        own ∙ (ap (λ (x : List ℕ). pair_of s x (take s.trains column)) trains ∙ ap (pair_of s told) departures) in
        ap kept same ∙ by_rules true _ _ _ (test_at t u ∙ not-false t v)

-- ---- what they mean for the definition

module _ (s : Sheet) (departure : List ℕ) (rows : List Row) where
  abbrev said : List ℕ
  said = trains_told s.orders rows

  broken_means : (f : Refusal) → judged_so s departure rows ≡ Err f → check s departure rows ≡ refused f
  unfolding judged_so check judge
  broken_means f = go (rows_fit s departure rows) (is_schedule s said departure)
    where
      go : (b c : Bool) → cond b (cond c (kept (pair_of s said departure)) (Err RuleBroken)) (Err WrongRows) ≡ Err f
          → cond b (cond c (beside (pair_of s said departure) (list s)) (refused RuleBroken)) (refused WrongRows) ≡ refused f
      go true true e = absurd (let z : ◌≡◌ {A = ℕ} 0 1 = cc in omega arith)
      go true false e = let same : RuleBroken ≡ f = cc in ap refused same
      go false c e = let same : WrongRows ≡ f = cc in ap refused same

  kept_means : (p : Pair) → judged_so s departure rows ≡ kept p → check s departure rows ≡ beside p (list s)
  unfolding judged_so check judge
  kept_means p = go (rows_fit s departure rows) (is_schedule s said departure)
    where
      same_pair_is : (x : Pair) → kept x ≡ kept p → x ≡ p
      same_pair_is x e = let (u, v) = same_chosen (record { last = x.last; worst = x.worst }) (record { last = p.last; worst = p.worst }) e in rw (u, v) refl

      go : (b c : Bool) → cond b (cond c (kept (pair_of s said departure)) (Err RuleBroken)) (Err WrongRows) ≡ kept p
          → cond b (cond c (beside (pair_of s said departure) (list s)) (refused RuleBroken)) (refused WrongRows) ≡ beside p (list s)
      go true true e = ap (λ (x : Pair). beside x (list s)) (same_pair_is (pair_of s said departure) e)
      go true false e = absurd (let z : ◌≡◌ {A = ℕ} 0 1 = cc in omega arith)
      go false c e = absurd (let z : ◌≡◌ {A = ℕ} 0 1 = cc in omega arith)

-- ---- the pair beside the list that stands in the area

-- a listed pair is found in the area where it is in the list
pub found_listed : (p : Pair) (pairs : List Pair) (found : List ℤ)
    → listed_in (over (pair_numbers pairs) found) p.last p.worst (length pairs) ≡ among p pairs
unfolding listed_in among
found_listed p pairs found =
    some_same_below (pair_here (over (pair_numbers pairs) found) p.last p.worst) (λ k. same_pair (pair_at pairs k) p) (length pairs)
    (λ k l. let (last, worst) = numbers_read pairs found k l in rw (last, worst) refl)

-- what the call tells of a plan that keeps the rules
beside_told : (p : Pair) (x : Answer Listing) (found : List ℤ)
    → CheckTold (beside p x) (beside_reply (list_reply x) p.last p.worst (list_left x found)) (list_left x found) found
unfolding beside beside_reply list_reply list_left check_reply check_left
beside_told p (refused r) found = record { replied = refl; areas_left = refl }
beside_told p (given l) found =
    record {
      replied = ap (λ (b : Bool). checked_as p.last p.worst b (length l.pairs) l.rounds) (found_listed p l.pairs found);
      areas_left = refl;
    }

-- ---- what is told

module _ (s : Sheet) (departure : List ℕ) (rows : List Row) (lent : List ℤ) (t : Admission) (is : t ≡ tested s (list_room s (length lent))) where
  abbrev room : Bool
  room = list_room s (length lent)

  pub told_refused : (f : Refusal) → t ≡ Err f → CheckTold (check_to s departure rows lent) (Err f) lent lent
  unfolding check_to check_reply check_left
  told_refused f e = told_first check_reply check_left s room (check s departure rows) lent t is f e refl

  pub told_broken : t ≡ Ok tt → (f : Refusal) → judged_so s departure rows ≡ Err f
      → CheckTold (check_to s departure rows lent) (Err f) lent lent
  unfolding check_to check_reply check_left
  told_broken e f b =
      told_then check_reply check_left s room (check s departure rows) lent t is e (Err f) lent
      (rw (broken_means s departure rows f b) (record { replied = refl; areas_left = refl }))

  pub told_kept : t ≡ Ok tt → (p : Pair) → judged_so s departure rows ≡ kept p → (r : ListReply) (left : List ℤ)
      → ListTold (list_to s lent) r left lent → (x : CheckReply) → x ≡ beside_reply r p.last p.worst left
      → CheckTold (check_to s departure rows lent) x left lent
  unfolding check_to list_to
  told_kept e p k r left told x own =
      let listed : after_tests (tested s room) (list s) ≡ list s = answer_granted s room (list s) (sym is ∙ e) in
      let reply : r ≡ list_reply (list s) = told.replied ∙ ap list_reply listed in
      let area : left ≡ list_left (list s) lent = told.areas_left ∙ ap (λ (x : Answer Listing). list_left x lent) listed in
      told_then check_reply check_left s room (check s departure rows) lent t is e x left
      (rw (own, kept_means s departure rows p k, reply, area) (beside_told p (list s) lent))

-- as many pairs as are told lie in the area
pub in_area : (s : Sheet) (lent : List ℤ) (r : ListReply) (left : List ℤ) → ListTold (list_to s lent) r left lent → InArea r left
unfolding list_reply list_left
in_area s lent r left told pairs rounds e = go (list_to s lent) told.replied told.areas_left
  where
    go : (x : Answer Listing) → r ≡ list_reply x → left ≡ list_left x lent → numbers_a_pair * pairs ≤ length left
    go (refused f) u v = absurd (let z : ◌≡◌ {A = ℕ} 0 1 = cc in omega arith)
    go (given l) u v =
        let (many, made) =
        same_listed (record { pairs = pairs; rounds = rounds }) (record { pairs = length l.pairs; rounds = l.rounds }) (sym e ∙ u) in
        rw v (omega (arith, many, pair_numbers_length l.pairs, length-append (pair_numbers l.pairs) (drop (length (pair_numbers l.pairs)) lent)))
