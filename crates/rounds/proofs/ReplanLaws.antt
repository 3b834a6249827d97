-- What the two calls of document 02, No. 13 answer. Assumes nothing.
use Rattle.std.proofs.Math.Path.{◌≡◌, refl, sym}
use Rattle.std.proofs.Common.{◌∙◌, inl, inr}
use Rattle.std.specs.Prelude.{◌↔◌, ◌⊎◌, Bool, cond, ℕ, ◌-◌, ◌≤◌, ◌<◌, ℤ, length}
use Rattle.std.proofs.Math.Bool.{true, false}
use mathlib.Core.List.{List}
use native.Mathlib.Omega.{arith}
use Rattle.numbers.specs.DecidesLaws.{Decides, decides_lt, decided, test_means, test_fails, cond_yes, cond_no}
use Rattle.model.specs.Sheet.{Sheet, places}
use Rattle.model.specs.Refusal.{of_reply}
use Rattle.model.specs.Admission.{Admitted}
use Rattle.model.specs.Gone.{Gone, gone_trains, went, WentWell, went_well, Begins}
use Rattle.model.proofs.GoneTestLaws.{decides_went_well}
use Rattle.model.specs.declared.Refusal.TheVariants.{NoSchedule, WishTooEarly, GoneWrong}
use Rattle.rounds.specs.Recording.{Entry}
use Rattle.rounds.specs.ChosenPair.{TooEarlyAmong}
use Rattle.rounds.specs.Answers.{Answer, refused, given, Listing, list_from, choose_from}
use Rattle.rounds.specs.Areas.{PlanAreas, list_room, plan_room, list_reply, choice_reply}
use Rattle.rounds.proofs.AreaLaws.{of_answer, Refuses, refuses_later, answer_refuses, listing_told, choice_told, rounds_refuse, choices_refuse}
use Rattle.rounds.proofs.AimLaws.{Aim}
use Rattle.rounds.proofs.AnswerLaws.{Answered, no_schedule, listing, answered, eight_means, eight_given}
use Rattle.rounds.proofs.ChoiceLaws.{Chose, too_early, choice, chose}
use Rattle.rounds.proofs.ChoiceLaws as choices
use Rattle.rounds.proofs.ChosenLaws.{eleven_chosen}
use Rattle.rounds.proofs.ChoosingLaws.{eight_chosen}
use Rattle.rounds.specs.Replan.{behind, outnumbered, after_gone, relist, rechoose, relist_to, rechoose_to}
use Rattle.rounds.proofs.GoneLaws.{begun_enough, too_few, enough, aim_behind}

module _ (s : Sheet) (g : Gone) where
  abbrev TooFew : Type 0
  TooFew = places s.capacity s.trains - places s.capacity (gone_trains g) < went s g 0

  decides_outnumbered : Decides TooFew (outnumbered s g)
  decides_outnumbered = decides_lt (places s.capacity s.trains - places s.capacity (gone_trains g)) (went s g 0)

  -- 21 is given where the gone part is not well
  pub wrong : {A : Type 0} (x : Answer A) → ¬ WentWell s g → after_gone s g x ≡ refused GoneWrong
  unfolding after_gone
  wrong x u = cond_no (decides_went_well s g) u (cond (outnumbered s g) (refused NoSchedule) x) (refused GoneWrong)

  module _ {A : Type 0} (x : Answer A) (w : WentWell s g) where
    tested : after_gone s g x ≡ cond (outnumbered s g) (refused NoSchedule) x
    unfolding after_gone
    tested = cond_yes (decides_went_well s g) w (cond (outnumbered s g) (refused NoSchedule) x) (refused GoneWrong)

    -- else 8 for want of places, and no schedule begins so; or what the rounds give
    pub data Passed : Type 0 where
      too_many : after_gone s g x ≡ refused NoSchedule → ((train departure : List ℕ) → ¬ Begins s g train departure) → Passed
      through : s.orders ≤ places (behind s g).capacity s.trains → after_gone s g x ≡ x → Passed

    pub passed : Passed
    passed = go (decided decides_outnumbered)
      where
        go : TooFew ⊎ (¬ TooFew) → Passed
        go (inl v) =
            too_many (tested ∙ cond_yes decides_outnumbered v (refused NoSchedule) x)
            (λ train departure b. too_few s g w v (begun_enough s g w train departure b))
        go (inr v) = through (enough s g w v) (tested ∙ cond_no decides_outnumbered v (refused NoSchedule) x)

    pub passes : s.orders ≤ places (behind s g).capacity s.trains → after_gone s g x ≡ x
    passes l = tested ∙ cond_no decides_outnumbered (λ v. too_few s g w v l) (refused NoSchedule) x

-- ---- the answers

module _ (s : Sheet) (g : Gone) (a : Admitted s) (w : WentWell s g) where
  abbrev Enough : Type 0
  Enough = s.orders ≤ places (behind s g).capacity s.trains

  abbrev aim : Enough → Aim s
  aim = aim_behind s g w a

  -- "the orders left outnumber the other trains' places": then none begins so; else there are places for all
  pub no_places : outnumbered s g ≡ true → (train departure : List ℕ) → ¬ Begins s g train departure
  no_places e train departure b = too_few s g w (test_means (decides_outnumbered s g) e) (begun_enough s g w train departure b)

  pub fits_in : outnumbered s g ≡ false → Enough
  fits_in e = enough s g w (test_fails (decides_outnumbered s g) e)

  -- 8 IS GIVEN EXACTLY WHEN NO SCHEDULE BEGINS WITH THE GONE TRAINS AND KEEPS TO THE MINUTE
  pub list_eight : relist s g ≡ refused NoSchedule ↔ ((train departure : List ℕ) → ¬ Begins s g train departure)
  unfolding relist
  list_eight = go (passed s g (list_from s (behind s g)) w)
    where
      go : Passed s g (list_from s (behind s g)) w
          → relist s g ≡ refused NoSchedule ↔ ((train departure : List ℕ) → ¬ Begins s g train departure)
      go (too_many e none) = (λ u. none, λ u. e)
      go (through l e) = (λ u. eight_means s (aim l) (sym e ∙ u), λ none. e ∙ eight_given s (aim l) none)

  -- a listing is that of the rounds
  pub list_given : {l : Listing} → relist s g ≡ given l → Enough × (list_from s (behind s g) ≡ given l)
  unfolding relist
  list_given {l} u = go (passed s g (list_from s (behind s g)) w)
    where
      go : Passed s g (list_from s (behind s g)) w → Enough × (list_from s (behind s g) ≡ given l)
      go (too_many e none) = absurd (let z : ◌≡◌ {A = ℕ} 0 1 = cc in omega arith)
      go (through l e) = (l, sym e ∙ u)

  -- where there are places enough the answer is the rounds'
  pub list_through : Enough → relist s g ≡ list_from s (behind s g)
  unfolding relist
  list_through l = passes s g (list_from s (behind s g)) w l

  no_twenty_one : ¬ (relist s g ≡ refused GoneWrong)
  unfolding relist
  no_twenty_one u = go (passed s g (list_from s (behind s g)) w)
    where
      not_so : (l : Enough) (x : Answer Listing) → Answered s (aim l) x → ¬ (x ≡ refused GoneWrong)
      not_so l x (no_schedule none) v = let z : ◌≡◌ {A = ℕ} 0 1 = cc in omega arith
      not_so l x (listing h) v = let z : ◌≡◌ {A = ℕ} 0 1 = cc in omega arith

      go : Passed s g (list_from s (behind s g)) w → ⊥
      go (too_many e none) = let z : ◌≡◌ {A = ℕ} 0 1 = cc in omega arith
      go (through l e) = not_so l _ (answered s (aim l)) (sym e ∙ u)

  module _ (wish : ℕ) where
    pub choice_eight : rechoose s g wish ≡ refused NoSchedule ↔ ((train departure : List ℕ) → ¬ Begins s g train departure)
    unfolding rechoose
    choice_eight = go (passed s g (choose_from s (behind s g) wish) w)
      where
        go : Passed s g (choose_from s (behind s g) wish) w
            → rechoose s g wish ≡ refused NoSchedule ↔ ((train departure : List ℕ) → ¬ Begins s g train departure)
        go (too_many e none) = (λ u. none, λ u. e)
        go (through l e) = (λ u. (eight_chosen s (aim l) wish).0 (sym e ∙ u), λ none. e ∙ (eight_chosen s (aim l) wish).1 none)

    -- 11 EXACTLY WHEN THERE IS SUCH A SCHEDULE AND NONE ARRIVES BY THE WISH
    pub choice_eleven : rechoose s g wish ≡ refused WishTooEarly ↔ TooEarlyAmong s (Begins s g) wish
    unfolding rechoose
    choice_eleven = go (passed s g (choose_from s (behind s g) wish) w)
      where
        go : Passed s g (choose_from s (behind s g) wish) w → rechoose s g wish ≡ refused WishTooEarly ↔ TooEarlyAmong s (Begins s g) wish
        go (too_many e none) = (
          λ u. absurd (let z : ◌≡◌ {A = ℕ} 0 1 = cc in omega arith),
          λ h. let (train, departure, b) = h.some in absurd (none train departure b),
        )
        go (through l e) = (λ u. (eleven_chosen s (aim l) wish).0 (sym e ∙ u), λ h. e ∙ (eleven_chosen s (aim l) wish).1 h)

    pub choice_given : {x : Entry} → rechoose s g wish ≡ given x → Enough × (choose_from s (behind s g) wish ≡ given x)
    unfolding rechoose
    choice_given {x} u = go (passed s g (choose_from s (behind s g) wish) w)
      where
        go : Passed s g (choose_from s (behind s g) wish) w → Enough × (choose_from s (behind s g) wish ≡ given x)
        go (too_many e none) = absurd (let z : ◌≡◌ {A = ℕ} 0 1 = cc in omega arith)
        go (through l e) = (l, sym e ∙ u)

    pub choice_through : Enough → rechoose s g wish ≡ choose_from s (behind s g) wish
    unfolding rechoose
    choice_through l = passes s g (choose_from s (behind s g) wish) w l

    no_twenty_one_chosen : ¬ (rechoose s g wish ≡ refused GoneWrong)
    unfolding rechoose
    no_twenty_one_chosen u = go (passed s g (choose_from s (behind s g) wish) w)
      where
        not_so : (l : Enough) (x : Answer Entry) → Chose s (aim l) wish x → ¬ (x ≡ refused GoneWrong)
        not_so l x (choices.no_schedule none) v = let z : ◌≡◌ {A = ℕ} 0 1 = cc in omega arith
        not_so l x (too_early h) v = let z : ◌≡◌ {A = ℕ} 0 1 = cc in omega arith
        not_so l x (choice h) v = let z : ◌≡◌ {A = ℕ} 0 1 = cc in omega arith

        go : Passed s g (choose_from s (behind s g) wish) w → ⊥
        go (too_many e none) = let z : ◌≡◌ {A = ℕ} 0 1 = cc in omega arith
        go (through l e) = not_so l _ (chose s (aim l) wish) (sym e ∙ u)

module _ (s : Sheet) (g : Gone) (a : Admitted s) where
  -- 21 EXACTLY WHEN THE GONE PART IS NOT WELL
  pub list_twenty_one : relist s g ≡ refused GoneWrong ↔ (¬ WentWell s g)
  unfolding relist
  list_twenty_one = (λ u w. no_twenty_one s g a w u, wrong s g (list_from s (behind s g)))

  pub choice_twenty_one : (wish : ℕ) → rechoose s g wish ≡ refused GoneWrong ↔ (¬ WentWell s g)
  unfolding rechoose
  choice_twenty_one wish = (λ u w. no_twenty_one_chosen s g a w wish u, wrong s g (choose_from s (behind s g) wish))

-- ---- what the calls refuse

-- whatever it is, 0 is returned, and 7 means too few places
module _ (s : Sheet) (g : Gone) where
  gone_refuses : {A : Type 0} (x : Answer A) → Refuses s (of_answer x) → Refuses s (of_answer (after_gone s g x))
  unfolding after_gone
  gone_refuses x h = go (went_well s g) (outnumbered s g)
    where
      go : (b c : Bool) → Refuses s (of_answer (cond b (cond c (refused NoSchedule) x) (refused GoneWrong)))
      go true true = refuses_later s NoSchedule refl (omega arith)
      go true false = h
      go false c = refuses_later s GoneWrong refl (omega arith)

  pub relist_refuses : (lent : List ℤ) → Refuses s (of_reply (list_reply (relist_to s g lent)))
  unfolding relist_to relist
  relist_refuses lent =
      rw (listing_told (relist_to s g lent))
      (answer_refuses s (list_room s (length lent)) (relist s g) (gone_refuses (list_from s (behind s g)) (rounds_refuse s (behind s g))))

  pub rechoice_refuses : (wish : ℕ) (lent : PlanAreas) → Refuses s (of_reply (choice_reply (rechoose_to s g wish lent)))
  unfolding rechoose_to rechoose
  rechoice_refuses wish lent =
      rw (choice_told (rechoose_to s g wish lent))
      (answer_refuses s (plan_room s (length lent.trains) (length lent.times)) (rechoose s g wish)
      (gone_refuses (choose_from s (behind s g) wish) (choices_refuse s (behind s g) wish)))
