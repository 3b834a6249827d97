-- `rules::departures::are_open` meets its contract: `open` is the test of the trains passed. Assumes nothing.
use Rattle.std.proofs.Common.{◌≡◌, arith, rules, length, length-take}
use Rattle.numbers.specs.CountingLaws.{every_start, every_more}
use Rattle.numbers.specs.ListLaws.{first_at}
use Rattle.columns.proofs.ColumnLaws.{nth_at}
use Rattle.rules.proofs.departures.are_open.Goals as goal

pub loop-t-init : goal.loop-t-init
loop-t-init c = every_start _

pub loop-t-preserved : goal.loop-t-preserved
loop-t-preserved c =
    let i = c.loop-t.t-index in
    let here = first_at c.args.q c.args.departure i (omega arith) in
    rw (every_more, ← c.loop-t.invariant, c.is_open-open.ensures, here, nth_at c.args.departure i)

pub returns : goal.returns
returns c =
    let l = c.loop-t in
    let a = c.args in
    let long : length a.departure ≡ 32 = search rules in
    let end : l.t-index ≡ a.q = omega (arith, length-take a.q a.departure) in
    rw end at l.invariant
