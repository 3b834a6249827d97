-- `rules::departures::are_spaced` meets its contract: `spaced` is the test of the trains passed but the first. Assumes nothing.
use Rattle.std.proofs.Common.{arith}
use Rattle.numbers.specs.CountingLaws.{every_start}
use Rattle.rules.proofs.RulesLaws.{spaced_more}
use Rattle.rules.proofs.departures.are_spaced.Goals as goal

pub loop-i-init : goal.loop-i-init
loop-i-init c = (omega arith, every_start _)

pub loop-i-preserved : goal.loop-i-preserved
loop-i-preserved c =
    let inv = c.loop-i.invariant in (
      omega arith,
      rw (c.from-in-loop-i.ensures, c.from-in-loop-i-2.ensures, c.from.ensures, inv.1) (spaced_more c.args.gap c.args.departure c.loop-i.i
          (omega arith)),
    )
