-- `listing::list_from` meets its contract: the loop's invariant is that the search after so many rounds is shown, and that its list is in the area. Assumes
-- nothing.
use Rattle.std.proofs.Common.{◌≡◌, refl, sym, ◌∙◌, true, false, Option, Some, None, ◌<◌, arith, rules, SFits, w64, to_z-of_z}
use Rattle.std.specs.Option.{is_some}
use Rattle.numbers.specs.DecidesLaws.{one_outcome}
use Rattle.model.specs.declared.Sheet as sheet
use Rattle.model.specs.Memory.{sheet_of}
use Rattle.model.specs.Admission.{Admitted}
use Rattle.rounds.specs.SettingOut.{Sets}
use Rattle.rounds.specs.RoundsBound.{rounds_bound}
use Rattle.rounds.proofs.BoundLaws.{bound_most}
use Rattle.rounds.proofs.AimLaws.{Aim, set_out}
use Rattle.search.specs.Shows.{Times}
use Rattle.search.specs.Setting.{outset_of}
use Rattle.search.specs.declared.Outset as memory
use Rattle.search.specs.declared.Progress.{Progress}
use Rattle.planner.specs.SoFar.{RunningFrom}
use Rattle.planner.proofs.RunningLaws.{begun, more, can_go_on, next, next_better, next_same, list_begun, list_better, list_same, list_ended}
use Rattle.listing.proofs.list_from.Goals as goal

-- at the entry: what the search aims at
module _ (m : sheet.Sheet) (o : memory.Outset) (a : Admitted (sheet_of m)) (h : Sets (sheet_of m) (outset_of m.order_count o)) where
  abbrev aim : Aim (sheet_of m)
  aim = set_out (sheet_of m) a (outset_of m.order_count o) h

  -- where a round is made, the search goes on, and rounds are left
  within : (p : Progress) → RunningFrom (sheet_of m) (outset_of m.order_count o) p → p.ended ≡ false → p.rounds < rounds_bound (sheet_of m)
  within p running on = more (sheet_of m) aim p running on

-- where times are recorded, and where not
recorded_some : (out : Option Times) → is_some out ≡ true → (t : Times) × (out ≡ Some t)
recorded_some None h = one_outcome h refl
recorded_some (Some t) h = (t, refl)

recorded_none : (out : Option Times) → is_some out ≡ false → out ≡ None
recorded_none None h = refl
recorded_none (Some t) h = one_outcome refl h

pub loop-progress-init : goal.loop-progress-init
loop-progress-init c =
    let s = sheet_of c.args.sheet.columns in
    let o = outset_of c.args.sheet.columns.order_count c.args.outset in
    let p = c.start_from-progress.result in
    let (running, none, zero) = begun s o p (c.start_from-progress.ensures s c.args.sheet.admitted.few) in
    (running, list_begun s o p c.args.pairs.now running none, omega arith, refl)

pub round_from-progress-requires-clause-ended_value : goal.round_from-progress-requires-clause-ended_value
round_from-progress-requires-clause-ended_value c = (
  c.loop-progress-test.true,
  can_go_on (sheet_of c.args.sheet.columns) (aim c.args.sheet.columns c.args.outset c.args.sheet.admitted c.requires.sets) c.loop-progress.progress
      c.loop-progress.invariant.0 c.loop-progress-test.true,
)

pub list_pair-count-requires : goal.list_pair-count-requires
list_pair-count-requires c =
    let few = bound_most (sheet_of c.args.sheet.columns) c.args.sheet.admitted in
    let v = c.loop-progress.invariant in
    let left = within c.args.sheet.columns c.args.outset c.args.sheet.admitted c.requires.sets c.loop-progress.progress v.0 c.loop-progress-test.true in
    (omega (arith, left, c.requires.room, v.2, v.3), omega (arith, left, v.2, few))

pub loop-progress-smaller-then-is_some : goal.loop-progress-smaller-then-is_some
loop-progress-smaller-then-is_some c =
    omega (
      arith,
      within c.args.sheet.columns c.args.outset c.args.sheet.admitted c.requires.sets c.loop-progress.progress c.loop-progress.invariant.0
          c.loop-progress-test.true,
      c.round_from-progress.ensures.counts,
    )

pub loop-progress-preserved-then-is_some : goal.loop-progress-preserved-then-is_some
loop-progress-preserved-then-is_some c =
    let s = sheet_of c.args.sheet.columns in
    let o = outset_of c.args.sheet.columns.order_count c.args.outset in
    let p = c.loop-progress.progress in
    let r = c.round_from-progress.result in
    let v = c.loop-progress.invariant in
    let going = next s o p r v.0 c.round_from-progress.ensures.is c.round_from-progress.ensures.counts in
    let (t, some) = recorded_some r.recorded (sym c.is_some.ensures ∙ c.if-is_some.true) in
    let is = next_better s o p r t some going.1 in
    let fits : SFits w64 r.limit = search rules in
    let limit = to_z-of_z {w = w64} fits in (
      going.0,
      list_better s o p r t _ _ _ _ _ is v.1 (rw limit at c.list_pair-count.ensures.lists),
      omega (arith, c.round_from-progress.ensures.counts, v.2, c.list_pair-count.ensures.counts.1),
      omega (arith, c.list_pair-count.auto, v.3),
    )

pub loop-progress-smaller : goal.loop-progress-smaller
loop-progress-smaller c =
    omega (
      arith,
      within c.args.sheet.columns c.args.outset c.args.sheet.admitted c.requires.sets c.loop-progress.progress c.loop-progress.invariant.0
          c.loop-progress-test.true,
      c.round_from-progress.ensures.counts,
    )

pub loop-progress-preserved : goal.loop-progress-preserved
loop-progress-preserved c =
    let s = sheet_of c.args.sheet.columns in
    let o = outset_of c.args.sheet.columns.order_count c.args.outset in
    let p = c.loop-progress.progress in
    let r = c.round_from-progress.result in
    let v = c.loop-progress.invariant in
    let going = next s o p r v.0 c.round_from-progress.ensures.is c.round_from-progress.ensures.counts in
    let is = next_same s o p r (recorded_none r.recorded (sym c.is_some.ensures ∙ c.if-is_some.false)) going.1 in (
      going.0,
      list_same s o p r _ _ _ going.0 is v.1,
      omega (arith, c.round_from-progress.ensures.counts, v.2),
      v.3,
    )

pub returns : goal.returns
returns c =
    rw c.listed.ensures
    (list_ended (sheet_of c.args.sheet.columns) (aim c.args.sheet.columns c.args.outset c.args.sheet.admitted c.requires.sets) c.loop-progress.progress
    c.loop-progress.count c.loop-progress.pairs c.args.pairs.now c.loop-progress.invariant.0 c.loop-progress-test.false c.loop-progress.invariant.1)
