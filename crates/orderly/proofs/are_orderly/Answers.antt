-- `orderly::are_orderly` meets its contract: each test stands for a part, and the bars for two. Assumes nothing.
use Rattle.numbers.specs.DecidesLaws.{test_means}
use Rattle.orderly.proofs.BarLaws.{decides_orderly}
use Rattle.orderly.proofs.are_orderly.Goals as goal

pub returns : goal.returns
returns c =
    let p = c.requires.n_le_most in
    decides_orderly _ _ _ _ _ _ c.survey.result.riders c.survey.result.low c.find_bars-bars.result p.0 p.2 p.3
    c.requires.up_to.0 c.survey.ensures.counts c.survey.ensures.lows c.find_bars-bars.ensures
    (test_means c.none_above.ensures c.if-not-none_above.false) (test_means c.have_room.ensures c.if-not-have_room.false)
    c.all_under.ensures
