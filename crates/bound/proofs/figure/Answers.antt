-- `bound::figure` meets its contract: `places` is K_i, and `most` is 1 and the sum so far. Assumes nothing.
use Rattle.std.proofs.Common.{◌≡◌, ◌≤◌, ◌-◌, refl, ◌∙◌, arith, rules, length, length-take}
use Rattle.numbers.specs.Counting.{at}
use Rattle.numbers.specs.ListLaws.{first_at}
use Rattle.model.proofs.SheetLaws.{places_start, places_more}
use Rattle.model.proofs.MemoryLaws.{few_places}
use Rattle.bound.proofs.FigureLaws.{sum_start, sum_more, figure_is}
use Rattle.bound.proofs.figure.Goals as goal

pub loop-own-init : goal.loop-own-init
loop-own-init c = (places_start _, sum_start _ c.args.sheet.columns.capacity, omega arith, omega arith)

pub loop-own-preserved : goal.loop-own-preserved
loop-own-preserved c =
    let l = c.loop-own in
    let s = c.args.sheet.columns in
    let i = l.own-index in
    let here = first_at (s.train_count - 1) s.capacity i (omega arith) in
    -- the capacity that a turn reads
    let read : at s.capacity i ≤ 64 = few_places s c.args.sheet.admitted i (omega (arith, length-take (s.train_count - 1) s.capacity)) in
    -- what it adds, at most 31 times
    let adds : c.min-most.result ≤ 2048 = omega (arith, c.min-most.ensures, read, here, c.args.sheet.admitted.few.trains, l.invariant.2) in (
      rw (here, places_more s.capacity i, ← l.invariant.0) refl,
      omega (arith, here, sum_more s.order_count s.capacity i, places_more s.capacity i, c.min-most.ensures),
      omega (arith, here, read),
      omega (arith, adds),
    )

pub returns : goal.returns
returns c =
    let l = c.loop-own in
    let s = c.args.sheet.columns in
    let long : length s.capacity ≡ 32 = search rules in
    let end : l.own-index ≡ s.train_count - 1 = omega (arith, length-take (s.train_count - 1) s.capacity) in
    (rw end at l.invariant.1) ∙ figure_is s
