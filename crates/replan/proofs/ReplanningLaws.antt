-- What the calls tell, test by test. Assumes nothing.
use Rattle.std.specs.Prelude.{◌≡◌, List, ℕ, ℤ, length}
use Rattle.std.proofs.Math.Path.{refl, sym, ap}
use Rattle.std.proofs.Common.{◌∙◌}
use Rattle.model.specs.Sheet.{Sheet}
use Rattle.model.specs.Memory.{sheet_of}
use Rattle.model.specs.Gone.{Gone}
use Rattle.std.specs.Prelude.{Result, Ok, Err}
use Rattle.model.specs.Refusal.{of_reply}
use Rattle.model.specs.Replies.{Admission, ListReply, ChoiceReply}
use Rattle.model.specs.declared.Refusal.{Refusal}
use Rattle.model.specs.declared.Sheet as memory
use Rattle.rounds.specs.Answers.{refused, list_from, choose_from}
use Rattle.rounds.specs.Areas.{PlanAreas, list_room, plan_room, tested, list_reply, list_left, choice_reply, plan_left}
use Rattle.rounds.specs.Replan.{behind, relist, rechoose, relist_to, rechoose_to}
use Rattle.rounds.proofs.SameOutsetLaws.{list_same, choose_same}
use Rattle.rounds.specs.Told.{ListTold, ChoiceTold}
use Rattle.room.proofs.CallLaws.{told_first, told_then}
use Rattle.search.specs.Setting.{outset_of}
use Rattle.search.specs.declared.Outset.{Outset}
use Rattle.planner.proofs.RunningLaws.{told_as}
use Rattle.gone.specs.Ready.{SetOut}
use Rattle.gone.proofs.ReadyLaws.{gone_refused, gone_granted}
use Rattle.replan.specs.Relisting.{RelistingCall}
use Rattle.replan.specs.Rechoosing.{RechoosingCall}
use Rattle.replan.proofs.ContractLaws.{listing_call, choosing_call}

module _ (m : memory.Sheet) (g : Gone) where
  abbrev s : Sheet
  s = sheet_of m

  -- ---- listing

  module _ (lent : List ℤ) (t : Admission) (is : t ≡ tested s (list_room s (length lent))) where
    pub list_refused : (f : Refusal) → t ≡ Err f → RelistingCall s g (Err f) lent lent
    unfolding relist_to list_reply list_left
    list_refused f e =
        listing_call s g (Err f) lent lent (told_first list_reply list_left s (list_room s (length lent)) (relist s g) lent t is f e refl)

    module _ (e : t ≡ Ok tt) (ready : Result Outset Refusal) (out : SetOut m g ready) where
      then : (r : ListReply) (left : List ℤ) → ListTold (relist s g) r left lent → RelistingCall s g r left lent
      unfolding relist_to
      then r left h =
          listing_call s g r left lent (told_then list_reply list_left s (list_room s (length lent)) (relist s g) lent t is e r left h)

      pub list_gone : (f : Refusal) → ready ≡ Err f → RelistingCall s g (Err f) lent lent
      unfolding relist list_reply list_left
      list_gone f u =
          then (Err f) lent
          (told_as {x = refused f} (sym (gone_refused s g (list_from s (behind s g)) f (sym out.is ∙ ap of_reply u))) (record {
            replied = refl;
            areas_left = refl;
          }))

      pub list_rounds : (o : Outset) → ready ≡ Ok o → (r : ListReply) (left : List ℤ)
          → ListTold (list_from s (outset_of m.order_count o)) r left lent → RelistingCall s g r left lent
      unfolding relist
      list_rounds o u r left h =
          then r left
          (told_as (list_same s (outset_of m.order_count o) (behind s g) (out.columns o u)
          ∙ sym (gone_granted s g (list_from s (behind s g)) (sym out.is ∙ ap of_reply u))) h)

  -- ---- choosing

  module _ (wish : ℕ) (lent : PlanAreas) (t : Admission) (is : t ≡ tested s (plan_room s (length lent.trains) (length lent.times))) where
    pub choice_refused : (f : Refusal) → t ≡ Err f → RechoosingCall s g wish (Err f) lent lent
    unfolding rechoose_to choice_reply plan_left
    choice_refused f e =
        choosing_call s g wish (Err f) lent lent
        (told_first choice_reply (plan_left s) s (plan_room s (length lent.trains) (length lent.times)) (rechoose s g wish) lent t is f e refl)

    module _ (e : t ≡ Ok tt) (ready : Result Outset Refusal) (out : SetOut m g ready) where
      then_chosen : (r : ChoiceReply) (left : PlanAreas) → ChoiceTold s (rechoose s g wish) r left lent → RechoosingCall s g wish r left lent
      unfolding rechoose_to
      then_chosen r left h =
          choosing_call s g wish r left lent
          (told_then choice_reply (plan_left s) s (plan_room s (length lent.trains) (length lent.times)) (rechoose s g wish) lent t is e r left h)

      pub choice_gone : (f : Refusal) → ready ≡ Err f → RechoosingCall s g wish (Err f) lent lent
      unfolding rechoose choice_reply plan_left
      choice_gone f u =
          then_chosen (Err f) lent
          (told_as {x = refused f} (sym (gone_refused s g (choose_from s (behind s g) wish) f (sym out.is ∙ ap of_reply u)))
          (record { replied = refl; areas_left = refl }))

      pub choice_rounds : (o : Outset) → ready ≡ Ok o → (r : ChoiceReply) (left : PlanAreas)
          → ChoiceTold s (choose_from s (outset_of m.order_count o) wish) r left lent → RechoosingCall s g wish r left lent
      unfolding rechoose
      choice_rounds o u r left h =
          then_chosen r left
          (told_as (choose_same s (outset_of m.order_count o) (behind s g) (out.columns o u) wish
          ∙ sym (gone_granted s g (choose_from s (behind s g) wish) (sym out.is ∙ ap of_reply u))) h)
