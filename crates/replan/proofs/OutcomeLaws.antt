-- What an answer behind gone trains can be, and its number. Assumes nothing.
use Rattle.std.specs.Prelude.{◌≡◌, ◌↔◌, ◌⊎◌, ℕ}
use Rattle.std.proofs.Math.Path.{refl}
use Rattle.std.proofs.Common.{sym, ap, ◌∙◌, inl, inr, arith}
use Rattle.numbers.specs.DecidesLaws.{decided}
use Rattle.model.specs.Sheet.{Sheet}
use Rattle.model.specs.Refusal.{number, number_of}
use Rattle.model.specs.Admission.{Admitted}
use Rattle.model.specs.Gone.{Gone, WentWell}
use Rattle.model.proofs.GoneTestLaws.{decides_went_well}
use Rattle.model.specs.declared.Refusal.{Refusal}
use Rattle.model.specs.declared.Refusal.TheVariants.{NoSchedule, WishTooEarly, GoneWrong}
use Rattle.rounds.specs.Recording.{Entry}
use Rattle.rounds.specs.Answers.{Answer, refused, given, Listing, list_from, choose_from}
use Rattle.rounds.proofs.AreaLaws.{of_answer}
use Rattle.rounds.proofs.AnswerLaws.{Answered, no_schedule, listing, answered}
use Rattle.rounds.proofs.ChoiceLaws as choices
use Rattle.rounds.proofs.ChoiceLaws.{Chose, too_early, choice, chose}
use Rattle.rounds.proofs.GoneLaws.{aim_behind}
use Rattle.rounds.specs.Replan.{behind, relist, rechoose}
use Rattle.rounds.proofs.ReplanLaws.{wrong, Passed, too_many, through, passed}

module _ {A : Type 0} where
  pub data Outcome (x : Answer A) : Type 0 where
    is_wrong : x ≡ refused GoneWrong → Outcome x
    is_none : x ≡ refused NoSchedule → Outcome x
    is_early : x ≡ refused WishTooEarly → Outcome x
    is_given : (y : A) → x ≡ given y → Outcome x

  abbrev pub its_number : Answer A → ℕ
  its_number x = number_of (of_answer x)

  num : {x y : Answer A} → x ≡ y → its_number x ≡ its_number y
  num e = ap (λ (x : Answer A). number_of (of_answer x)) e

  pub by_eight : (x : Answer A) → Outcome x → its_number x ≡ 8 → x ≡ refused NoSchedule
  by_eight x (is_wrong u) e = absurd (let z = sym (num u) ∙ e in omega (arith, z))
  by_eight x (is_none u) e = u
  by_eight x (is_early u) e = absurd (let z = sym (num u) ∙ e in omega (arith, z))
  by_eight x (is_given y u) e = absurd (let z = sym (num u) ∙ e in omega (arith, z))

  pub by_eleven : (x : Answer A) → Outcome x → its_number x ≡ 11 → x ≡ refused WishTooEarly
  by_eleven x (is_wrong u) e = absurd (let z = sym (num u) ∙ e in omega (arith, z))
  by_eleven x (is_none u) e = absurd (let z = sym (num u) ∙ e in omega (arith, z))
  by_eleven x (is_early u) e = u
  by_eleven x (is_given y u) e = absurd (let z = sym (num u) ∙ e in omega (arith, z))

  pub by_twenty_one : (x : Answer A) → Outcome x → its_number x ≡ 21 → x ≡ refused GoneWrong
  by_twenty_one x (is_wrong u) e = u
  by_twenty_one x (is_none u) e = absurd (let z = sym (num u) ∙ e in omega (arith, z))
  by_twenty_one x (is_early u) e = absurd (let z = sym (num u) ∙ e in omega (arith, z))
  by_twenty_one x (is_given y u) e = absurd (let z = sym (num u) ∙ e in omega (arith, z))

  -- a number that only this refusal has is told exactly when the refusal is given
  pub numbered : {x : Answer A} {f : Refusal} {P : Type 0} → (its_number x ≡ number f → x ≡ refused f) → x ≡ refused f ↔ P → its_number x ≡ number f ↔ P
  numbered by (means, gives) = (λ e. means (by e), λ p. num (gives p))

module _ (s : Sheet) (a : Admitted s) (g : Gone) where
  pub list_outcome : Outcome (relist s g)
  unfolding relist
  list_outcome = go (decided (decides_went_well s g))
    where
      go : WentWell s g ⊎ (¬ WentWell s g) → Outcome (relist s g)
      go (inr u) = is_wrong (wrong s g (list_from s (behind s g)) u)
      go (inl w) = past (passed s g (list_from s (behind s g)) w)
        where
          past : Passed s g (list_from s (behind s g)) w → Outcome (relist s g)
          past (too_many e none) = is_none e
          past (through l e) = by (list_from s (behind s g)) refl (answered s (aim_behind s g w a l))
            where
              by : (x : Answer Listing) → list_from s (behind s g) ≡ x → Answered s (aim_behind s g w a l) x → Outcome (relist s g)
              by x u (no_schedule none) = is_none (e ∙ u)
              by x u (listing {l = y} h) = is_given y (e ∙ u)

  pub choice_outcome : (wish : ℕ) → Outcome (rechoose s g wish)
  unfolding rechoose
  choice_outcome wish = go (decided (decides_went_well s g))
    where
      go : WentWell s g ⊎ (¬ WentWell s g) → Outcome (rechoose s g wish)
      go (inr u) = is_wrong (wrong s g (choose_from s (behind s g) wish) u)
      go (inl w) = past (passed s g (choose_from s (behind s g) wish) w)
        where
          past : Passed s g (choose_from s (behind s g) wish) w → Outcome (rechoose s g wish)
          past (too_many e none) = is_none e
          past (through l e) = by (choose_from s (behind s g) wish) refl (chose s (aim_behind s g w a l) wish)
            where
              by : (x : Answer Entry) → choose_from s (behind s g) wish ≡ x → Chose s (aim_behind s g w a l) wish x → Outcome (rechoose s g wish)
              by x u (choices.no_schedule none) = is_none (e ∙ u)
              by x u (too_early h) = is_early (e ∙ u)
              by x u (choice {e = y} h) = is_given y (e ∙ u)
