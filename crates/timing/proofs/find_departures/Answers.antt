-- `timing::find_departures` meets its contract: the loop's invariant is that trains 1 to i have left, each in the window told, and that the first m windows
-- are over at the instant that the next train awaits. Assumes nothing.
use Rattle.std.proofs.Common.{◌≡◌, refl, sym, ap, ◌∙◌, inl, inr, suc, ◌+◌, ◌≤◌, ◌<◌, max, arith, add-one, take, replicate, length-set}
use Rattle.numbers.specs.Counting.{at, nth}
use Rattle.model.specs.Memory.{windows_of}
use Rattle.model.proofs.MemoryLaws.{windows_in_range}
use Rattle.rounds.specs.Timing.{first_window, earliest, departures}
use Rattle.columns.proofs.ColumnLaws.{nth_at}
use Rattle.timing.specs.Timed.{departed_in}
use Rattle.timing.proofs.TimingStepLaws.{no_window, window_first, earliest_first, earliest_behind}
use Rattle.timing.proofs.TimingStepLaws.{departures_first, departures_stop, departures_next}
use Rattle.timing.proofs.TimingStepLaws.{left_none, left_more, told, all_left, some_never, left_in_time, both_to_come, one_at_end}
use Rattle.timing.specs.declared.Leaving.{Leaving}
use Rattle.timing.proofs.find_departures.Goals as goal

pub loop-i-init : goal.loop-i-init
loop-i-init c = (
  (omega arith, omega arith, refl),
  left_none,
  departures_first _ _,
  earliest_first _ (replicate 32 0) _,
  λ k l. absurd (omega arith),
)

pub overflow_add-t : goal.overflow_add-t
overflow_add-t c =
    let w = c.args.sheet.columns in
    let m = c.loop-i.m in
    let within = windows_in_range w c.args.sheet.admitted c.requires in
    let more = both_to_come c.loop-i.i _ m _ c.loop-i-test.true in
    let range = within.windows (suc m) (omega arith) (omega (arith, more.1)) in
    omega (
      arith,
      c.max-t-in-loop-i.ensures,
      c.if-to-m.false,
      range.from.1,
      range.to.1,
      nth_at w.window_from m,
      nth_at w.window_to m,
      within.gap.1,
    )

pub loop-i-preserved : goal.loop-i-preserved
loop-i-preserved c =
    let s = c.args in
    let w = s.sheet.columns in
    let inv = c.loop-i.invariant in
    let i = c.loop-i.i in
    let m = c.loop-i.m in
    let t = c.max-t in
    let v = c.max-t-in-loop-i.result in
    let within = windows_in_range w c.args.sheet.admitted c.requires in
    let more = both_to_come i _ m _ c.loop-i-test.true in
    let range = within.windows (suc m) (omega arith) (omega (arith, more.1)) in
    let few : i < 32 = omega (arith, more.0, c.args.sheet.admitted.few.trains) in
    let early : v ≤ 100000 =
    omega (arith, c.max-t-in-loop-i.ensures, c.if-to-m.false, range.from.1, range.to.1, nth_at w.window_from m, nth_at w.window_to m) in
    let e : v ≡ max t.result (nth w.window_from (m + 1)) = rw (add-one m) (omega (arith, c.max-t-in-loop-i.ensures, nth_at w.window_from m)) in
    let awaited : t.result ≡ earliest w.gap (take i c.loop-i.departure) i (nth s.released (suc i)) = rw (nth_at s.released i) (t.ensures ∙ inv.3) in
    let window : m + 1 ≡ first_window (nth w.window_to) t.result w.window_count =
    add-one m ∙ window_first w.window_to t.result w.window_count m more.1 (λ k h. omega (arith, t.ensures, inv.4 k h))
    (omega (arith, c.if-to-m.false)) in
    let next =
    departures_next (windows_of w) (nth s.released) c.loop-i.departure c.loop-i.window i t.result (m + 1) inv.2 awaited window (λ z. omega arith)
    (omega (arith, inv.1.0, few)) (omega (arith, inv.0.2, few)) in (
      (omega (arith, more.0), inv.0.1, length-set c.loop-i.window _ _ ∙ inv.0.2),
      left_more c.loop-i.departure i v few early inv.1,
      rw e next,
      earliest_behind w.gap c.loop-i.departure i v _ (omega (arith, inv.1.0, few)),
      λ k h. omega (arith, inv.4 k h, t.ensures, c.max-t-in-loop-i.ensures),
    )

pub returns-clause-is : goal.returns-clause-is
returns-clause-is c =
    let s = c.args in
    let w = s.sheet.columns in
    let l = c.loop-i in
    let inv = l.invariant in
    let q = w.train_count in
    let leaving : Leaving = record { departure = l.departure; window = l.window } in
    let t = max l.t (at s.released l.i) in
    let awaited : t ≡ earliest w.gap (take l.i l.departure) l.i (nth s.released (suc l.i)) = rw (nth_at s.released l.i) inv.3 in
    ap (departed_in q) c.then_some.ensures
    ∙ elim (one_at_end l.i q l.m _ c.loop-i-test.false inv.0.0 inv.0.1) as (λ _. departed_in q (told leaving l.i q) ≡ departures (windows_of w) (nth
    s.released) q) [
      | inl e ↦ all_left leaving l.i q e ∙ sym (rw e at inv.2)
      | inr h ↦
          some_never leaving l.i q h.0
          ∙ departures_stop (windows_of w) (nth s.released) l.departure l.window l.i t 0 inv.2 awaited
          (no_window w.window_to t w.window_count (rw h.1 at inv.4)) refl q h.0
    ]

pub returns-clause-in_time : goal.returns-clause-in_time
returns-clause-in_time c =
    let l = c.loop-i in
    let leaving : Leaving = record { departure = l.departure; window = l.window } in
    rw c.then_some.ensures (left_in_time leaving l.i c.args.sheet.columns.train_count l.invariant.1.1)
