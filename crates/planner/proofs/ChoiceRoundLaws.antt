-- The choice that is held, over the rounds of a call. Assumes nothing.
use Rattle.std.specs.Prelude.{◌≡◌, refl, ◌⊎◌, Bool, true, false, ◌&&◌, List, [], ℕ, ◌≤◌, ◌<◌, leb}
use Rattle.std.proofs.Common.{sym, ◌∙◌, subst, inl, inr, arith}
use Rattle.std.proofs.Math.Path.{ap}
use Rattle.numbers.specs.DecidesLaws.{decides_le, test_means, test_fails, one_outcome}
use Rattle.numbers.specs.OneMoreLaws.{All, all_new}
use Rattle.numbers.specs.Over.{over}
use Rattle.model.specs.Sheet.{Sheet}
use Rattle.std.specs.Prelude.{Option, Some, None, Err}
use Rattle.model.specs.Replies.{ChoiceReply, chosen_as}
use Rattle.model.specs.declared.Refusal.TheVariants.{NoSchedule}
use Rattle.rounds.specs.Recording.{Entry, record_entry, no_entry, recorded_arrival, last_entry}
use Rattle.rounds.proofs.RecordingLaws.{record_last}
use Rattle.rounds.specs.EntryPlan.{EntryPlan}
use Rattle.rounds.specs.Outset.{Outset}
use Rattle.rounds.proofs.AimLaws.{Aim, rounds_of, recorded_of, schedule_of}
use Rattle.rounds.proofs.InvariantLaws.{entry_plans}
use Rattle.rounds.specs.Answers.{Answer, chosen, choose_from}
use Rattle.rounds.specs.Areas.{PlanAreas, plan_times}
use Rattle.rounds.proofs.ChoosingLaws.{choice_settled, choice_at_end}
use Rattle.rounds.specs.Told.{areas, ChoiceTold}
use Rattle.search.specs.Shows.{Times, shown_entry, recorded_by}
use Rattle.search.proofs.RunLaws.{over_means}
use Rattle.search.specs.declared.Progress.{Progress}
use Rattle.planner.specs.Outcome.{choice_so}
use Rattle.planner.specs.SoFar.{RunningFrom, recorded_now_from, Holds}
use Rattle.planner.proofs.SoFarLaws.{nothing_held, takes, leaves}
use Rattle.planner.proofs.RunningLaws.{next_better, next_same}

-- ---- the tests of the loop

module _ (last wish : ℕ) where
  -- a test with "in time" behind it
  pub both : (b : Bool) → (b && leb last wish) ≡ true → (b ≡ true) × (last ≤ wish)
  both true e = (refl, test_means (decides_le last wish) e)
  both false e = one_outcome e refl

  pub not_both : (b : Bool) → (b && leb last wish) ≡ false → (b ≡ false) ⊎ (wish < last)
  not_both true e = inr (let late = test_fails (decides_le last wish) e in omega arith)
  not_both false e = inl refl

module _ (s : Sheet) (a : Aim s) (wish : ℕ) where
  abbrev o : Outset
  o = a.outset

  -- what is recorded is a schedule of the sheet
  all_plans : (k : ℕ) → All no_entry (EntryPlan s) (recorded_of s a k)
  all_plans k j l =
      let h = entry_plans s a k j l in
      record { schedule = schedule_of s a _ _ h.schedule; arrives = h.arrives; arrivals = h.arrivals; pair = h.pair }

  -- the plan that a round recorded is a schedule
  own_plan : (p r : Progress) (t : Times) → recorded_now_from s o r ≡ record_entry (recorded_now_from s o p) (shown_entry s r t)
      → EntryPlan s (shown_entry s r t)
  own_plan p r t is =
      let e = shown_entry s r t in
      let (before, u) = record_last (recorded_now_from s o p) e in
      all_new no_entry before e (EntryPlan s) (subst (All no_entry (EntryPlan s)) (is ∙ u) (all_plans r.rounds))

  -- of the same entries and the same arrival the same is held
  held : {choice : ChoiceReply} {left found : PlanAreas} {last last' : ℕ} {entries entries' : List Entry} → last ≡ last' → entries ≡ entries'
      → Holds s wish choice left found last entries → Holds s wish choice left found last' entries'
  held u v h = rw (← u, ← v) h

  -- before the first round
  pub choice_begun : (p : Progress) (found : PlanAreas) → RunningFrom s o p → recorded_now_from s o p ≡ []
      → Holds s wish (Err NoSchedule) found found p.last (recorded_now_from s o p)
  unfolding last_entry
  choice_begun p found running none = held (sym (running.last ∙ ap recorded_arrival none)) (sym none) (nothing_held s wish found)

  module _ (p r : Progress) (choice : ChoiceReply) (left found : PlanAreas) (h : Holds s wish choice left found p.last (recorded_now_from s o p))
      (early : p.last ≤ wish) where
    -- a better plan in time, once it is written
    pub choice_taken : (t : Times) → recorded_now_from s o r ≡ record_entry (recorded_now_from s o p) (shown_entry s r t) → r.last ≤ wish
        → (trains times : List ℕ) → trains ≡ over (shown_entry s r t).plan.train left.trains
        → times ≡ over (plan_times s (shown_entry s r t).plan) left.times
        → Holds s wish (chosen_as r.last r.limit) (areas trains times) found r.last (recorded_now_from s o r)
    choice_taken t is timely trains times trains_are times_are =
        rw is
        (takes s wish choice left found p.last (recorded_now_from s o p) h early (shown_entry s r t) timely (own_plan p r t is) (all_plans p.rounds)
        trains times trains_are times_are)

    -- a plan that is not better, or late
    pub choice_kept : RunningFrom s o p → RunningFrom s o r → recorded_now_from s o r ≡ recorded_by s r (recorded_now_from s o p)
        → (r.recorded ≡ None) ⊎ (wish < r.last)
        → Holds s wish choice left found r.last (recorded_now_from s o r)
    choice_kept before after records why = go r.recorded refl why
      where
        same : r.recorded ≡ None → Holds s wish choice left found r.last (recorded_now_from s o r)
        same worse =
            let is = next_same s o p r worse records in
            held (before.last ∙ sym (ap recorded_arrival is) ∙ sym after.last) (sym is) h

        go : (out : Option Times) → r.recorded ≡ out → (r.recorded ≡ None) ⊎ (wish < r.last) → Holds s wish choice left found r.last (recorded_now_from s o r)
        go out u (inl worse) = same worse
        go None u (inr late) = same u
        go (Some t) u (inr late) =
            rw (next_better s o p r t u records) (leaves s wish choice left found p.last (recorded_now_from s o p) h early (shown_entry s r t) late)

  -- AT THE END, or once the pair recorded last is later than the wish, what is told is what the rounds answer
  pub choice_ended : (p : Progress) (choice : ChoiceReply) (left found : PlanAreas) → RunningFrom s o p
      → Holds s wish choice left found p.last (recorded_now_from s o p) → (p.ended ≡ true) ⊎ (wish < p.last)
      → ChoiceTold s (choose_from s o wish) (choice_so choice (leb p.last wish)) left found
  choice_ended p choice left found running h over =
      subst (λ (x : Answer Entry). ChoiceTold s x (choice_so choice (leb p.last wish)) left found) (sym (settled over)) h.told
    where
      settled : (p.ended ≡ true) ⊎ (wish < p.last) → choose_from s o wish ≡ chosen wish (recorded_now_from s o p)
      settled (inl over) =
          choice_at_end s a wish p.rounds p.rounds (recorded_now_from s o p) (over_means s o p (rounds_of s a p.rounds) running over)
      settled (inr late) = choice_settled s a wish p.rounds (omega (arith, running.last))
