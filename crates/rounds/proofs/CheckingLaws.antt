-- What a checking call answers to a foreign plan of an admitted sheet. Assumes nothing.
use Rattle.std.specs.Prelude.{◌≡◌, refl, ◌↔◌, ◌⊎◌, Bool, true, false, cond, List, ℕ, ◌≤◌, ◌<◌, ℤ, pos, length}
use Rattle.std.proofs.Common.{sym, ap, ◌∙◌, subst, inl, inr, arith}
use Rattle.numbers.specs.DecidesLaws.{Decides, decides_eq, decides_and, decides_iff, decides_some, decided, test_true, test_means}
use Rattle.numbers.specs.SignedLaws.{≤ℤ_trans, neither_above, decides_same}
use Rattle.model.specs.Sheet.{Sheet}
use Rattle.model.specs.Schedule.{Schedule}
use Rattle.model.specs.ScheduleTest.{is_schedule}
use Rattle.model.proofs.ScheduleTestLaws.{decides_schedule}
use Rattle.model.specs.Lateness.{Pair, pair_of, pair_at, AtLeastAsGood}
use Rattle.model.specs.Foreign.{RowsFit, rows_fit, trains_told, RowsTell, rows_of}
use Rattle.model.proofs.ForeignLaws.{decides_rows_fit, told_by_rows, rows_of_tell}
use Rattle.model.specs.Refusal.{number_of, of_reply}
use Rattle.model.specs.Admission.{Admitted}
use Rattle.model.specs.declared.Row.{Row}
use Rattle.std.specs.Prelude.{Err}
use Rattle.model.specs.declared.Refusal.{Refusal}
use Rattle.model.specs.declared.Refusal.TheVariants.{WrongRows, RuleBroken}
use Rattle.rounds.specs.Recording.{Entry}
use Rattle.rounds.specs.ChosenPair.{Unbeaten}
use Rattle.rounds.specs.Outset.{ordinary}
use Rattle.rounds.specs.Answers.{Answer, refused, given, Listing, list, choose}
use Rattle.rounds.specs.Areas.{list_room}
use Rattle.rounds.proofs.AreaLaws.{of_answer, Refuses, refuses_nothing, refuses_later, answer_refuses, rounds_refuse}
use Rattle.rounds.proofs.PairListLaws.{apart}
use Rattle.rounds.proofs.AimLaws.{whole}
use Rattle.rounds.proofs.EndLaws.{ListsFront}
use Rattle.rounds.proofs.AnswerLaws.{Answered, no_schedule, listing, answered, listed_so}
use Rattle.rounds.proofs.ChoiceLaws.{Choice}
use Rattle.rounds.proofs.ChosenLaws.{chosen_so}
use Rattle.rounds.specs.Checking.{Verdict, same_pair, among, beside, judge, check, check_to, check_reply, check_left}

-- ---- whether a pair is listed

pairs_alike : (p p' : Pair) → pos p.last ≡ pos p'.last → p.worst ≡ p'.worst → p ≡ p'
pairs_alike p p' u v = let e : p.last ≡ p'.last = cc in rw (e, v) refl

decides_same_pair : (p p' : Pair) → Decides (p ≡ p') (same_pair p p')
decides_same_pair p p' =
    decides_iff (λ x. pairs_alike p p' x.0 x.1) (λ e. (ap (λ (y : Pair). pos y.last) e, ap (λ (y : Pair). y.worst) e))
    (decides_and (decides_same (pos p.last) (pos p'.last)) (decides_same p.worst p'.worst))

pub decides_among : (p : Pair) (pairs : List Pair) → Decides ((k : ℕ) × (k < length pairs) × (pair_at pairs k ≡ p)) (among p pairs)
unfolding among
decides_among p pairs = decides_some {P = λ k. pair_at pairs k ≡ p} (λ k. decides_same_pair (pair_at pairs k) p) (length pairs)

-- ---- the answer

module _ (s : Sheet) (departure : List ℕ) (rows : List Row) where
  -- the trains that the rows say
  abbrev told : List ℕ
  told = trains_told s.orders rows

  -- 12, 13, or yes, with the list
  pub data Judged : Answer Verdict → Type 0 where
    wrong_rows : ¬ RowsFit s departure rows → Judged (refused WrongRows)
    rule_broken : RowsFit s departure rows → ¬ Schedule s told departure → Judged (refused RuleBroken)
    yes : RowsFit s departure rows → Schedule s told departure → (l : Listing) → list s ≡ given l
        → Judged (given (record { pair = pair_of s told departure; is_listed = among (pair_of s told departure) l.pairs; listing = l }))

  pub judged : Admitted s → Judged (check s departure rows)
  unfolding check judge beside
  judged a = by_rows (rows_fit s departure rows) (decides_rows_fit s departure rows)
    where
      with_list : RowsFit s departure rows → Schedule s told departure → (x : Answer Listing) → list s ≡ x → Answered s (whole s a) x
          → Judged (beside (pair_of s told departure) x)
      with_list f h x u (no_schedule none) = absurd (none told departure h)
      with_list f h x u (listing {l} fr) = yes f h l u

      by_rules : RowsFit s departure rows → (b : Bool) → Decides (Schedule s told departure) b
          → Judged (cond b (beside (pair_of s told departure) (list s)) (refused RuleBroken))
      by_rules f true d = with_list f (d.sound tt) (list s) refl (answered s (whole s a))
      by_rules f false d = rule_broken f (λ h. d.complete h)

      by_rows : (b : Bool) → Decides (RowsFit s departure rows) b → Judged (cond b (judge s told departure) (refused WrongRows))
      by_rows true d = by_rules (d.sound tt) (is_schedule s told departure) (decides_schedule s told departure)
      by_rows false d = wrong_rows (λ f. d.complete f)

-- ---- a pair of a schedule is listed exactly when no schedule is better

good_trans : {p p₁ p₂ : Pair} → AtLeastAsGood p p₁ → AtLeastAsGood p₁ p₂ → AtLeastAsGood p p₂
good_trans g h = record { no_later = omega (arith, g.no_later, h.no_later); no_worse = ≤ℤ_trans g.no_worse h.no_worse }

each_as_good : (p p₁ : Pair) → AtLeastAsGood p p₁ → AtLeastAsGood p₁ p → p ≡ p₁
each_as_good p p₁ g h = pairs_alike p p₁ (ap pos (omega (arith, g.no_later, h.no_later))) (neither_above g.no_worse h.no_worse)

module _ (s : Sheet) (a : Admitted s) (l : Listing) (h : ListsFront s (whole s a) l) where
  abbrev pairs : List Pair
  pairs = l.pairs

  listed_unbeaten : (k : ℕ) → k < length pairs → Unbeaten s (pair_at pairs k)
  listed_unbeaten k among train departure schedule good =
      let (m, here, covers) = h.cover train departure schedule in
      each_as_good (pair_of s train departure) (pair_at pairs k) good
      (subst (λ (i : ℕ). AtLeastAsGood (pair_at pairs i) (pair_of s train departure)) (one m here (good_trans covers good)) covers)
    where
      one : (m : ℕ) → m < length pairs → AtLeastAsGood (pair_at pairs m) (pair_at pairs k) → m ≡ k
      one m here g = go (decided (decides_eq m k))
        where
          go : (m ≡ k) ⊎ (¬ (m ≡ k)) → m ≡ k
          go (inl e) = e
          go (inr e) = absurd (apart pairs h.rise m k here among e g)

  unbeaten_listed : (train departure : List ℕ) → Schedule s train departure → Unbeaten s (pair_of s train departure)
      → (k : ℕ) × (k < length pairs) × (pair_at pairs k ≡ pair_of s train departure)
  unbeaten_listed train departure schedule best =
      let (k, among, good) = h.cover train departure schedule in
      let (train₀, departure₀, schedule₀, own) = h.belong k among in
      (k, among, sym own ∙ best train₀ departure₀ schedule₀ (subst (λ (p : Pair). AtLeastAsGood p (pair_of s train departure)) (sym own) good))

-- ---- read off

module _ (s : Sheet) (departure : List ℕ) (rows : List Row) (a : Admitted s) where
  -- what a yes says
  pub record Yes (v : Verdict) : Type 0 where
    pub fit : RowsFit s departure rows
    pub schedule : Schedule s (told s departure rows) departure
    pub pair : v.pair ≡ pair_of s (told s departure rows) departure
    pub is_list : list s ≡ given v.listing
    pub listed : v.is_listed ≡ true ↔ ((k : ℕ) × (k < length v.listing.pairs) × (pair_at v.listing.pairs k ≡ v.pair))

  pub yes_so : {v : Verdict} → check s departure rows ≡ given v → Yes v
  yes_so {v} e = go (check s departure rows) e (judged s departure rows a)
    where
      go : (x : Answer Verdict) → x ≡ given v → Judged s departure rows x → Yes v
      go x u (wrong_rows f) = absurd (let z : ◌≡◌ {A = ℕ} 0 1 = cc in omega arith)
      go x u (rule_broken f h) = absurd (let z : ◌≡◌ {A = ℕ} 0 1 = cc in omega arith)
      go x u (yes f h l is) =
          let p = pair_of s (told s departure rows) departure in
          let d = decides_among p l.pairs in
          let same : record { pair = p; is_listed = among p l.pairs; listing = l } ≡ v = cc in
          subst Yes same (record { fit = f; schedule = h; pair = refl; is_list = is; listed = (test_means d, test_true d) })

  -- "is there a better one": it is listed exactly when there is none
  pub yes_unbeaten : {v : Verdict} → check s departure rows ≡ given v → v.is_listed ≡ true ↔ Unbeaten s v.pair
  yes_unbeaten {v} e =
      let y = yes_so e in
      let h = listed_so s (whole s a) y.is_list in (
        λ u. let (k, among, is) = y.listed.0 u in subst (Unbeaten s) is (listed_unbeaten s a v.listing h k among),
        λ u. y.listed.1
            (subst (λ (p : Pair). (k : ℕ) × (k < length v.listing.pairs) × (pair_at v.listing.pairs k ≡ p)) (sym y.pair)
            (unbeaten_listed s a v.listing h (told s departure rows) departure y.schedule (subst (Unbeaten s) y.pair u))),
      )

  pub yes_given : ((v : Verdict) × (check s departure rows ≡ given v)) ↔ (RowsFit s departure rows × Schedule s (told s departure rows) departure)
  yes_given = (λ x. let y = yes_so x.1 in (y.fit, y.schedule), λ x. go x (check s departure rows) refl (judged s departure rows a))
    where
      go : RowsFit s departure rows × Schedule s (told s departure rows) departure → (x : Answer Verdict) → check s departure rows ≡ x
          → Judged s departure rows x → (v : Verdict) × (check s departure rows ≡ given v)
      go y x u (wrong_rows f) = absurd (f y.0)
      go y x u (rule_broken f h) = absurd (h y.1)
      go y x u (yes f h l is) = (_, u)

  pub twelve_given : check s departure rows ≡ refused WrongRows ↔ (¬ RowsFit s departure rows)
  twelve_given = (λ e. means (subst (Judged s departure rows) e (judged s departure rows a)), go (check s departure rows) (judged s departure rows a))
    where
      means : Judged s departure rows (refused WrongRows) → ¬ RowsFit s departure rows
      means (wrong_rows f) = f

      go : (x : Answer Verdict) → Judged s departure rows x → ¬ RowsFit s departure rows → x ≡ refused WrongRows
      go x (wrong_rows f) g = refl
      go x (rule_broken f h) g = absurd (g f)
      go x (yes f h l is) g = absurd (g f)

  pub thirteen_given : check s departure rows ≡ refused RuleBroken ↔ (RowsFit s departure rows × (¬ Schedule s (told s departure rows) departure))
  thirteen_given = (λ e. means (subst (Judged s departure rows) e (judged s departure rows a)), go (check s departure rows) (judged s departure rows a))
    where
      means : Judged s departure rows (refused RuleBroken) → RowsFit s departure rows × (¬ Schedule s (told s departure rows) departure)
      means (rule_broken f h) = (f, h)

      go : (x : Answer Verdict) → Judged s departure rows x → RowsFit s departure rows × (¬ Schedule s (told s departure rows) departure)
          → x ≡ refused RuleBroken
      go x (wrong_rows f) g = absurd (f g.0)
      go x (rule_broken f h) g = refl
      go x (yes f h l is) g = absurd (g.1 h)

-- ---- "Every plan that our own planner makes gets a yes."

-- the plan chosen for a wish, in the rows of another firm
module _ (s : Sheet) (a : Admitted s) (wish : ℕ) (e : Entry) (u : choose s wish ≡ given e) (rows : List Row)
    (t : RowsTell s e.plan.train e.plan.departure rows) where
  abbrev S : List ℕ
  S = e.plan.departure

  so : Choice s (whole s a) wish e
  so = chosen_so s (whole s a) wish u

  plan_told : told s S rows ≡ e.plan.train
  plan_told = told_by_rows s S rows t.fit e.plan.train so.plan.schedule.placed t.each_row

  own : Schedule s (told s S rows) S
  own = subst (λ (x : List ℕ). Schedule s x S) (sym plan_told) so.plan.schedule

  own_pair : pair_of s (told s S rows) S ≡ e.pair
  own_pair = ap (λ (x : List ℕ). pair_of s x S) plan_told ∙ so.plan.pair

  own_listed : (l : Listing) → list s ≡ given l → among (pair_of s (told s S rows) S) l.pairs ≡ true
  own_listed l is =
      let listed = so.is_list in
      let here : so.listing ≡ l = cc in
      let place : (k : ℕ) × (k < length so.listing.pairs) × (pair_at so.listing.pairs k ≡ pair_of s (told s S rows) S) =
      (so.last.place, so.last.among, so.last.is ∙ sym own_pair) in
      test_true (decides_among (pair_of s (told s S rows) S) l.pairs)
      (subst (λ (x : Listing). (k : ℕ) × (k < length x.pairs) × (pair_at x.pairs k ≡ pair_of s (told s S rows) S)) here place)

  pub own_plan : (v : Verdict) × (check s S rows ≡ given v) × (v.pair ≡ e.pair) × (v.is_listed ≡ true)
  own_plan = go (check s S rows) refl (judged s S rows a)
    where
      go : (x : Answer Verdict) → check s S rows ≡ x → Judged s S rows x
          → (v : Verdict) × (check s S rows ≡ given v) × (v.pair ≡ e.pair) × (v.is_listed ≡ true)
      go x c (wrong_rows f) = absurd (f t.fit)
      go x c (rule_broken f h) = absurd (h own)
      go x c (yes f h l is) = (_, c, own_pair, own_listed l is)

-- such rows are the plan's own, by rising order number
pub own_rows : (s : Sheet) → Admitted s → (wish : ℕ) (e : Entry) → choose s wish ≡ given e
    → RowsTell s e.plan.train e.plan.departure (rows_of e.plan.train)
own_rows s a wish e u =
    let h = (chosen_so s (whole s a) wish u).plan.schedule in rows_of_tell s e.plan.departure e.plan.train h.departs h.placed h.on_a_train

-- ---- a refused call

check_told : (x : Answer Verdict) → of_reply (check_reply x) ≡ of_answer x
unfolding check_reply
check_told (refused r) = refl
check_told (given v) = refl

pub check_refuses : (s : Sheet) (departure : List ℕ) (rows : List Row) (lent : List ℤ)
    → Refuses s (of_reply (check_reply (check_to s departure rows lent)))
unfolding check_to check judge beside
check_refuses s departure rows lent =
    rw (check_told (check_to s departure rows lent))
    (answer_refuses s (list_room s (length lent)) (check s departure rows)
    (unless (rows_fit s departure rows) _ WrongRows
    (unless (is_schedule s (told s departure rows) departure) _ RuleBroken (passed_on (list s) (rounds_refuse s (ordinary s)))
    (refuses_later s RuleBroken refl (omega arith))) (refuses_later s WrongRows refl (omega arith))))
  where
    unless : (b : Bool) (x : Answer Verdict) (r : Refusal) → Refuses s (of_answer x) → Refuses s (Err r)
        → Refuses s (of_answer (cond b x (refused r)))
    unless true x r y z = y
    unless false x r y z = z

    passed_on : (x : Answer Listing) → Refuses s (of_answer x) → Refuses s (of_answer (beside (pair_of s (told s departure rows) departure) x))
    passed_on (refused r) z = z
    passed_on (given l) z = refuses_nothing s

pub check_as_found : (x : Answer Verdict) (found : List ℤ) → 1 ≤ number_of (of_reply (check_reply x)) → check_left x found ≡ found
unfolding check_reply check_left
check_as_found (refused r) found l = refl
check_as_found (given v) found l = absurd (omega arith)
