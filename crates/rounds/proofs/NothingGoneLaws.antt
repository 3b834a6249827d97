-- DOCUMENT 02, NO. 13: "With no train gone and minute 0 it is the ordinary plan." Assumes nothing.
use Rattle.std.specs.Prelude.{◌≡◌, Bool, cond, List, ℕ, suc, ◌≤◌, ◌<◌, eqb, ℤ, length}
use Rattle.std.proofs.Math.Path.{refl, ap}
use Rattle.std.proofs.Common.{sym, ◌∙◌, arith, ext_get_or}
use Rattle.std.proofs.lemmas.List.{length-replicate, get_or-replicate}
use Rattle.numbers.specs.Counting.{at, nth}
use Rattle.numbers.specs.DecidesLaws.{cond_no}
use Rattle.numbers.specs.CountingLaws.{table_length, table_at}
use Rattle.model.specs.Sheet.{Paths, windows, timetable, Sheet, places}
use Rattle.model.specs.Schedule.{Departures}
use Rattle.model.specs.Admission.{Admitted, admission}
use Rattle.model.proofs.AdmissionLaws.{admitted_means}
use Rattle.std.specs.Prelude.{Ok, Err}
use Rattle.model.specs.Replies.{Admission}
use Rattle.model.specs.Foreign.{train_in, trains_told}
use Rattle.model.specs.Gone.{nothing_gone, gone_by, went, WentWell}
use Rattle.rounds.specs.Outset.{Outset, ordinary}
use Rattle.rounds.specs.Answers.{Answer, list, list_from, choose, choose_from}
use Rattle.rounds.specs.Areas.{PlanAreas, list_room, plan_room, after_admission, tested, after_tests, list_to, choose_to}
use Rattle.rounds.specs.Replan.{behind, relist, rechoose, relist_to, rechoose_to}
use Rattle.rounds.proofs.GoneLaws.{decides_gone, First, is_left, has_left, first}
use Rattle.rounds.proofs.ReplanLaws.{passes}

no_departures : (f : Paths) (S : ℕ → ℕ) → Departures f 0 S
no_departures (windows w) S = record { in_window = λ i p l. absurd (omega arith); spaced = λ i p l. absurd (omega arith) }
no_departures (timetable t) S = record { fixed = λ i p l. absurd (omega arith) }

module _ (s : Sheet) where
  all_left : (j : ℕ) → j < s.orders → at (gone_by s nothing_gone) j ≡ 0
  unfolding trains_told train_in
  all_left j l = table_at (λ j. train_in nothing_gone.rows 0 (suc j)) 0 s.orders j l

  same_latest : (behind s nothing_gone).latest ≡ (ordinary s).latest
  same_latest =
      ext_get_or 0 (behind s nothing_gone).latest (ordinary s).latest (size ∙ sym (length-replicate s.orders s.trains))
      (λ j l. let u : j < s.orders = omega (arith, size) in go j u (first s nothing_gone j u))
    where
      size : length (behind s nothing_gone).latest ≡ s.orders
      size = table_length (λ j. cond (eqb (at (gone_by s nothing_gone) j) 0) s.trains (at (gone_by s nothing_gone) j)) s.orders

      go : (j : ℕ) → j < s.orders → First s nothing_gone j → at (behind s nothing_gone).latest j ≡ at (ordinary s).latest j
      go j l (is_left e u) = u ∙ sym (get_or-replicate s.orders j s.trains 0 l)
      go j l (has_left e u) = absurd (omega (arith, all_left j l))

  -- THE OUTSET IS THE ORDINARY ONE
  pub behind_nothing : behind s nothing_gone ≡ ordinary s
  behind_nothing =
      λ k. record {
        capacity = λ i. cond_no (decides_gone nothing_gone i) (λ h. omega arith) (went s nothing_gone i) (s.capacity i) k;
        latest = same_latest k;
        since = λ i. cond_no (decides_gone nothing_gone i) (λ h. omega arith) (nth nothing_gone.departure i) 0 k;
      }

  module _ (a : Admitted s) where
    well : WentWell s nothing_gone
    well =
        record {
          orders = λ k l. absurd (omega arith);
          trains = λ k l. absurd (omega arith);
          once = λ k l. absurd (omega arith);
          room = λ i p l. absurd (omega arith);
          released = λ j l p. absurd (omega (arith, all_left j l));
          departures = no_departures s.paths (nth nothing_gone.departure);
          left_by_then = λ i p l. absurd (omega arith);
          remains = a.complete.trains;
        }

    enough : s.orders ≤ places (behind s nothing_gone).capacity s.trains
    enough = omega (arith, ap (λ (o : Outset). places o.capacity s.trains) behind_nothing, a.roomy)

    -- SO THE ANSWERS ARE THE ORDINARY ONES
    pub lists_as_ever : relist s nothing_gone ≡ list s
    unfolding relist
    lists_as_ever = passes s nothing_gone (list_from s (behind s nothing_gone)) well enough ∙ ap (list_from s) behind_nothing

    pub chooses_as_ever : (wish : ℕ) → rechoose s nothing_gone wish ≡ choose s wish
    unfolding rechoose
    chooses_as_ever wish =
        passes s nothing_gone (choose_from s (behind s nothing_gone) wish) well enough ∙ ap (λ (o : Outset). choose_from s o wish) behind_nothing

  -- OF THE CALLS TOO, refusals among them
  same_tests : {A : Type 0} (room : Bool) (x y : Answer A) → (Admitted s → x ≡ y) → after_tests (tested s room) x ≡ after_tests (tested s room) y
  unfolding tested after_admission after_tests
  same_tests room x y same = go (admission s) refl
    where
      go : (t : Admission) → admission s ≡ t → after_tests (after_admission room t) x ≡ after_tests (after_admission room t) y
      go (Ok _) u = ap (after_tests (after_admission room (Ok tt))) (same ((admitted_means s).0 u))
      go (Err r) u = refl

  pub lists_to_as_ever : (lent : List ℤ) → relist_to s nothing_gone lent ≡ list_to s lent
  unfolding relist_to list_to
  lists_to_as_ever lent = same_tests (list_room s (length lent)) (relist s nothing_gone) (list s) lists_as_ever

  pub chooses_to_as_ever : (wish : ℕ) (lent : PlanAreas) → rechoose_to s nothing_gone wish lent ≡ choose_to s wish lent
  unfolding rechoose_to choose_to
  chooses_to_as_ever wish lent =
      same_tests (plan_room s (length lent.trains) (length lent.times)) (rechoose s nothing_gone wish) (choose s wish) (λ a. chooses_as_ever a wish)
