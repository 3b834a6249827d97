-- `choosing::choose_from` meets its contract: the loop's invariant is that the search after so many rounds is shown, and that what it answers to the wish is
-- held. Assumes nothing.
use Rattle.std.proofs.Common.{◌≡◌, refl, inl, inr, ⊎_elim, true, not, ◌&&◌, ℕ, ◌<◌, leb, arith, rules, SFits, w64, to_z-of_z}
use Rattle.numbers.specs.DecidesLaws.{by_now, not_yet}
use Rattle.model.specs.declared.Sheet as sheet
use Rattle.model.specs.Memory.{sheet_of}
use Rattle.model.specs.Admission.{Admitted}
use Rattle.rounds.specs.SettingOut.{Sets}
use Rattle.rounds.specs.RoundsBound.{rounds_bound}
use Rattle.rounds.specs.Told.{areas}
use Rattle.rounds.proofs.AimLaws.{Aim, set_out}
use Rattle.search.specs.Setting.{outset_of}
use Rattle.search.specs.declared.Outset as memory
use Rattle.search.specs.declared.Progress.{Progress}
use Rattle.planner.specs.SoFar.{RunningFrom}
use Rattle.planner.proofs.ChoiceRoundLaws.{both, not_both, choice_begun, choice_taken, choice_kept, choice_ended}
use Rattle.planner.proofs.RunningLaws.{begun, more, can_go_on, next, next_better}
use Rattle.choosing.proofs.choose_from.Goals as goal

-- at the entry: what the search aims at
module _ (m : sheet.Sheet) (o : memory.Outset) (a : Admitted (sheet_of m)) (h : Sets (sheet_of m) (outset_of m.order_count o)) where
  abbrev aim : Aim (sheet_of m)
  aim = set_out (sheet_of m) a (outset_of m.order_count o) h

  -- where a round is made, the search goes on, no pair is late yet, and rounds are left
  within : (p : Progress) (wish : ℕ) → RunningFrom (sheet_of m) (outset_of m.order_count o) p → (not p.ended && leb p.last wish) ≡ true
      → p.rounds < rounds_bound (sheet_of m)
  within p wish running on = more (sheet_of m) aim p running (not_yet p.ended (both p.last wish (not p.ended) on).0)

pub loop-progress-init : goal.loop-progress-init
loop-progress-init c =
    let s = sheet_of c.args.sheet.columns in
    let o = outset_of c.args.sheet.columns.order_count c.args.outset in
    let p = c.start_from-progress.result in
    let (running, none, zero) = begun s o p (c.start_from-progress.ensures s c.args.sheet.admitted.few) in (
      running,
      choice_begun s (aim c.args.sheet.columns c.args.outset c.args.sheet.admitted c.requires.sets) c.args.wish p
          (areas c.args.train_of_order.now c.args.times.now) running none,
      refl,
      refl,
    )

pub round_from-progress-requires-clause-ended_value : goal.round_from-progress-requires-clause-ended_value
round_from-progress-requires-clause-ended_value c =
    let p = c.loop-progress.progress in
    let on = not_yet p.ended (both p.last c.args.wish (not p.ended) c.loop-progress-test.true).0 in (
      on,
      can_go_on (sheet_of c.args.sheet.columns) (aim c.args.sheet.columns c.args.outset c.args.sheet.admitted c.requires.sets) p
          c.loop-progress.invariant.0 on,
    )

pub loop-progress-smaller-then-progress-wish : goal.loop-progress-smaller-then-progress-wish
loop-progress-smaller-then-progress-wish c =
    omega (
      arith,
      within c.args.sheet.columns c.args.outset c.args.sheet.admitted c.requires.sets c.loop-progress.progress c.args.wish
          c.loop-progress.invariant.0 c.loop-progress-test.true,
      c.round_from-progress.ensures.counts,
    )

pub loop-progress-preserved-then-progress-wish : goal.loop-progress-preserved-then-progress-wish
loop-progress-preserved-then-progress-wish c =
    let s = sheet_of c.args.sheet.columns in
    let o = outset_of c.args.sheet.columns.order_count c.args.outset in
    let p = c.loop-progress.progress in
    let r = c.round_from-progress.result in
    let v = c.loop-progress.invariant in
    let going = next s o p r v.0 c.round_from-progress.ensures.is c.round_from-progress.ensures.counts in
    let early = (both p.last c.args.wish (not p.ended) c.loop-progress-test.true).1 in
    let is = next_better s o p r c.in-Some.timed c.in-Some.is going.1 in
    let fits : SFits w64 r.limit = search rules in
    let limit = to_z-of_z {w = w64} fits in (
      going.0,
      rw limit
          (choice_taken s (aim c.args.sheet.columns c.args.outset c.args.sheet.admitted c.requires.sets) c.args.wish p r c.loop-progress.choice _
          (areas c.args.train_of_order.now c.args.times.now) v.1 early c.in-Some.timed is c.if-progress-wish.true _ _ c.put_trains.ensures c.put_times.ensures),
      omega (arith, c.put_trains.auto, v.2),
      omega (arith, c.put_times.auto, v.3),
    )

pub loop-progress-smaller-else-progress-wish : goal.loop-progress-smaller-else-progress-wish
loop-progress-smaller-else-progress-wish c =
    omega (
      arith,
      within c.args.sheet.columns c.args.outset c.args.sheet.admitted c.requires.sets c.loop-progress.progress c.args.wish
          c.loop-progress.invariant.0 c.loop-progress-test.true,
      c.round_from-progress.ensures.counts,
    )

pub loop-progress-preserved-else-progress-wish : goal.loop-progress-preserved-else-progress-wish
loop-progress-preserved-else-progress-wish c =
    let s = sheet_of c.args.sheet.columns in
    let o = outset_of c.args.sheet.columns.order_count c.args.outset in
    let p = c.loop-progress.progress in
    let r = c.round_from-progress.result in
    let v = c.loop-progress.invariant in
    let going = next s o p r v.0 c.round_from-progress.ensures.is c.round_from-progress.ensures.counts in
    let early = (both p.last c.args.wish (not p.ended) c.loop-progress-test.true).1 in (
      going.0,
      choice_kept s (aim c.args.sheet.columns c.args.outset c.args.sheet.admitted c.requires.sets) c.args.wish p r c.loop-progress.choice _
          (areas c.args.train_of_order.now c.args.times.now) v.1 early v.0 going.0 going.1 (inr (omega arith)),
      v.2,
      v.3,
    )

pub loop-progress-smaller : goal.loop-progress-smaller
loop-progress-smaller c =
    omega (
      arith,
      within c.args.sheet.columns c.args.outset c.args.sheet.admitted c.requires.sets c.loop-progress.progress c.args.wish
          c.loop-progress.invariant.0 c.loop-progress-test.true,
      c.round_from-progress.ensures.counts,
    )

pub loop-progress-preserved : goal.loop-progress-preserved
loop-progress-preserved c =
    let s = sheet_of c.args.sheet.columns in
    let o = outset_of c.args.sheet.columns.order_count c.args.outset in
    let p = c.loop-progress.progress in
    let r = c.round_from-progress.result in
    let v = c.loop-progress.invariant in
    let going = next s o p r v.0 c.round_from-progress.ensures.is c.round_from-progress.ensures.counts in
    let early = (both p.last c.args.wish (not p.ended) c.loop-progress-test.true).1 in (
      going.0,
      choice_kept s (aim c.args.sheet.columns c.args.outset c.args.sheet.admitted c.requires.sets) c.args.wish p r c.loop-progress.choice _
          (areas c.args.train_of_order.now c.args.times.now) v.1 early v.0 going.0 going.1 (inl c.in_default.is),
      v.2,
      v.3,
    )

pub returns : goal.returns
returns c =
    let p = c.loop-progress.progress in
    rw c.told.ensures
    (choice_ended (sheet_of c.args.sheet.columns) (aim c.args.sheet.columns c.args.outset c.args.sheet.admitted c.requires.sets) c.args.wish p
    c.loop-progress.choice _ (areas c.args.train_of_order.now c.args.times.now) c.loop-progress.invariant.0 c.loop-progress.invariant.1
    (⊎_elim (λ over. inl (by_now p.ended over)) inr (not_both p.last c.args.wish (not p.ended) c.loop-progress-test.false)))
