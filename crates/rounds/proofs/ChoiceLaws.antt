-- What the choosing call answers to an admitted sheet, case by case. Assumes nothing.
use Rattle.std.specs.Prelude.{◌≡◌, ◌⊎◌, ℕ, ◌≤◌, ◌<◌}
use Rattle.std.proofs.Math.Path.{refl}
use Rattle.std.proofs.Common.{ap, ◌∙◌, subst, inl, inr, arith}
use mathlib.Core.List.{List, [], ◌∷◌}
use Rattle.numbers.specs.DecidesLaws.{decides_le, decided}
use Rattle.numbers.specs.OneMoreLaws.{All}
use Rattle.model.specs.Sheet.{Sheet}
use Rattle.model.specs.Lateness.{Pair, pair_at}
use Rattle.model.specs.declared.Refusal.TheVariants.{NoSchedule, WishTooEarly}
use Rattle.rounds.specs.Recording.{Entry, listed, no_entry}
use Rattle.rounds.proofs.RecordingLaws.{listed_length, listed_at}
use Rattle.rounds.specs.EntryPlan.{EntryPlanAmong}
use Rattle.rounds.specs.ChosenPair.{LastInTime, TooEarlyAmong}
use Rattle.rounds.specs.Rounds.{Search, rounds_in, recorded_in}
use Rattle.rounds.specs.Answers.{Answer, refused, given, Listing, list_of, list_from, chosen, choose_from}
use Rattle.rounds.proofs.ListLaws.{list_given}
use Rattle.rounds.proofs.InTimeLaws.{LastAt, when_timely, when_late, last_at}
use Rattle.rounds.proofs.PairListLaws.{in_order}
use Rattle.rounds.proofs.AimLaws.{Aim, search_of}
use Rattle.rounds.proofs.FrontSoFarLaws.{Belongs}
use Rattle.rounds.proofs.EndLaws.{Unschedulable, ListsFront, listing_with, Found, nothing, entries, found}

-- e has its plan, and its pair is the last listed one that is not later than the wish
pub record Choice (s : Sheet) (a : Aim s) (wish : ℕ) (e : Entry) : Type 0 where
  pub plan : EntryPlanAmong s a.Among e
  pub listing : Listing
  pub is_list : list_from s a.outset ≡ given listing
  pub lists : ListsFront s a listing
  pub last : LastInTime wish listing.pairs e.pair

-- where the wish is too early each schedule's pair is late
pub pair_late : (s : Sheet) (a : Aim s) (wish : ℕ) → TooEarlyAmong s a.Among wish → (p : Pair) → Belongs s a p → wish < p.last
pair_late s a wish h p (train, departure, schedule, own) = subst (λ (p : Pair). wish < p.last) own (h.later train departure schedule)

-- 8, 11 or a choice
pub data Chose (s : Sheet) (a : Aim s) (wish : ℕ) : Answer Entry → Type 0 where
  no_schedule : Unschedulable s a → Chose s a wish (refused NoSchedule)
  too_early : TooEarlyAmong s a.Among wish → Chose s a wish (refused WishTooEarly)
  choice : {e : Entry} → Choice s a wish e → Chose s a wish (given e)

module _ (s : Sheet) (a : Aim s) (wish : ℕ) where
  -- the first listed pair is late, so every schedule is
  pub all_late : (l : Listing) → ListsFront s a l → wish < (pair_at l.pairs 0).last → TooEarlyAmong s a.Among wish
  all_late l h late =
      let (train, departure, schedule, own) = h.belong 0 h.not_empty in
      record {
        some = (train, departure, schedule);
        later = λ train departure schedule.
            let (k, among, good) = h.cover train departure schedule in
            omega (arith, (in_order l.pairs h.rise 0 k (omega arith) among).0, good.no_later);
      }

  choice_is : (c : ℕ) (recorded : List Entry) → list_from s a.outset ≡ given (listing_with c recorded) → ListsFront s a (listing_with c recorded)
      → All no_entry (EntryPlanAmong s a.Among) recorded → (e : Entry) → LastAt wish recorded e → Choice s a wish e
  choice_is c recorded is_list lists plans e h =
      let many = listed_length recorded in
      record {
        plan = subst (EntryPlanAmong s a.Among) h.is (plans h.place h.among);
        listing = listing_with c recorded;
        is_list = is_list;
        lists = lists;
        last =
            record {
              place = h.place;
              among = omega (arith, h.among);
              is = listed_at recorded h.place ∙ ap (λ (x : Entry). x.pair) h.is;
              in_time = h.timely;
              later = λ k u v. rw (listed_at recorded k) (h.later k u (omega arith));
            };
      }

  choose_is : (x : Search) → list_from s a.outset ≡ list_of (rounds_in x) (recorded_in x) → Found s a x → Chose s a wish (chosen wish (recorded_in x))
  unfolding chosen listed
  choose_is x u (nothing none) = no_schedule none
  choose_is x u (entries {c = c} [] some plans l) = absurd (omega arith)
  choose_is x u (entries {c = c} (e ∷ es) some plans l) = go (decided (decides_le e.pair.last wish))
    where
      go : (e.pair.last ≤ wish) ⊎ (¬ (e.pair.last ≤ wish)) → Chose s a wish (chosen wish (e ∷ es))
      go (inl v) = rw (when_timely wish e v _ _) (choice (choice_is c (e ∷ es) (u ∙ list_given c (e ∷ es) some) l plans _ (last_at wish e es v)))
      go (inr v) = rw (when_late wish e (omega arith) _ _) (too_early (all_late (listing_with c (e ∷ es)) l (omega arith)))

  pub chose : Chose s a wish (choose_from s a.outset wish)
  unfolding choose_from list_from
  chose = choose_is (search_of s a) refl (found s a)
