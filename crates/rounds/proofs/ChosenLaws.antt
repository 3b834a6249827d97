-- What a choice is, and when there is none. Assumes nothing.
use Rattle.std.specs.Prelude.{◌≡◌, refl, ◌↔◌, List, ℕ, ◌≤◌, ◌<◌, length, ◌≤ℤ◌}
use Rattle.std.proofs.Common.{ap, ◌∙◌, subst, arith}
use Rattle.numbers.specs.SignedLaws.{≤ℤ_trans}
use Rattle.model.specs.Sheet.{Sheet}
use Rattle.model.specs.Lateness.{Pair, pair_at}
use Rattle.model.specs.declared.Refusal.TheVariants.{WishTooEarly}
use Rattle.rounds.specs.Recording.{Entry}
use Rattle.rounds.specs.ChosenPair.{BestAmong, TooEarlyAmong}
use Rattle.rounds.specs.Answers.{Answer, refused, given, Listing, list_from, choose_from}
use Rattle.rounds.proofs.PairListLaws.{in_order}
use Rattle.rounds.proofs.AimLaws.{Aim}
use Rattle.rounds.proofs.FrontSoFarLaws.{belongs_to}
use Rattle.rounds.proofs.AnswerLaws.{listed_so}
use Rattle.rounds.proofs.ChoiceLaws.{Choice, pair_late, all_late, Chose, no_schedule, too_early, choice, chose}

module _ (s : Sheet) (a : Aim s) (wish : ℕ) (e : Entry) (h : Choice s a wish e) where
  abbrev pairs : List Pair
  pairs = h.listing.pairs

  -- a listed pair that is in time does not stand behind the chosen one
  not_behind : (k : ℕ) → k < length pairs → (pair_at pairs k).last ≤ wish → k ≤ h.last.place
  not_behind k among timely = let u : ¬ (h.last.place < k) = λ v. omega (arith, h.last.later k v among) in omega arith

  -- no schedule that arrives in time has a smaller worst lateness
  pub choice_best : BestAmong s a.Among wish e.pair
  choice_best train departure schedule timely =
      let (k, among, good) = h.lists.cover train departure schedule in
      let before = not_behind k among (omega (arith, good.no_later)) in
      let no_worse = (in_order pairs h.lists.rise k h.last.place before h.last.among).1 in
      ≤ℤ_trans (subst (λ (p : Pair). p.worst ≤ℤ (pair_at pairs k).worst) h.last.is no_worse) good.no_worse

  -- a listed pair that arrives at the wish is the chosen one
  at_wish : (k : ℕ) → k < length pairs → (pair_at pairs k).last ≡ wish → pair_at pairs k ≡ e.pair
  at_wish k among arrives =
      let before = not_behind k among (omega arith) in
      let timely : (pair_at pairs h.last.place).last ≤ wish = rw h.last.is h.last.in_time in
      let not_before : ¬ (k < h.last.place) = λ u. omega (arith, (h.lists.rise k h.last.place u h.last.among).earlier) in
      let same : k ≡ h.last.place = omega arith in
      ap (pair_at pairs) same ∙ h.last.is

  pub choice_at : (l : Listing) → list_from s a.outset ≡ given l
      → (k : ℕ) → k < length l.pairs → (pair_at l.pairs k).last ≡ wish → pair_at l.pairs k ≡ e.pair
  choice_at l u =
      let own = h.is_list in
      let same : h.listing ≡ l = cc in
      subst (λ (l : Listing). (k : ℕ) → k < length l.pairs → (pair_at l.pairs k).last ≡ wish → pair_at l.pairs k ≡ e.pair) same at_wish

module _ (s : Sheet) (a : Aim s) (wish : ℕ) where
  pub chosen_so : {e : Entry} → choose_from s a.outset wish ≡ given e → Choice s a wish e
  chosen_so {e} u = go (subst (Chose s a wish) u (chose s a wish))
    where
      go : Chose s a wish (given e) → Choice s a wish e
      go (choice h) = h

  -- 11 IS GIVEN EXACTLY WHEN THERE IS A SCHEDULE AND NONE ARRIVES BY THE WISH
  pub eleven_chosen : choose_from s a.outset wish ≡ refused WishTooEarly ↔ TooEarlyAmong s a.Among wish
  eleven_chosen = (λ u. means (subst (Chose s a wish) u (chose s a wish)), given_so (choose_from s a.outset wish) (chose s a wish))
    where
      means : Chose s a wish (refused WishTooEarly) → TooEarlyAmong s a.Among wish
      means (too_early h) = h

      given_so : (x : Answer Entry) → Chose s a wish x → TooEarlyAmong s a.Among wish → x ≡ refused WishTooEarly
      given_so x (no_schedule none) l = let (train, departure, schedule) = l.some in absurd (none train departure schedule)
      given_so x (too_early h) l = refl
      given_so x (choice h) l = absurd (omega (arith, h.last.in_time, pair_late s a wish l _ (belongs_to s a _ h.plan)))

  -- THAT IS, WHEN "THE WISHED ARRIVAL IS BEFORE THE FIRST LISTED ONE"
  pub eleven_before_first : {l : Listing} → list_from s a.outset ≡ given l
      → choose_from s a.outset wish ≡ refused WishTooEarly ↔ (wish < (pair_at l.pairs 0).last)
  eleven_before_first {l} u =
      let h = listed_so s a u in
      (λ v. pair_late s a wish (eleven_chosen.0 v) _ (h.belong 0 h.not_empty), λ v. eleven_chosen.1 (all_late s a wish l h v))
