-- `timing::releases` meets its contract: the loop's invariant is that the first j orders are counted in. Assumes nothing.
use Rattle.std.proofs.Common.{◌≡◌, ap, ◌∙◌, ◌-◌, arith, rules, set, take, get_or-take}
use Rattle.numbers.specs.Counting.{at, nth}
use Rattle.timing.proofs.TimingStepLaws.{releases_none, releases_more}
use Rattle.timing.proofs.releases.Goals as goal

pub loop-j-init : goal.loop-j-init
loop-j-init c = releases_none _ _ _ (search rules)

pub loop-j-preserved : goal.loop-j-preserved
loop-j-preserved c =
    let a = c.args in
    let l = c.loop-j in
    let t = at a.train l.j in
    let on = c.requires.1 l.j (omega arith) in
    let here : at (take a.n a.train) l.j ≡ t = get_or-take a.n a.train l.j 0 (omega arith) in
    rw c.from-m.ensures
    (ap (set l.released (t - 1)) (rw c.from-m.ensures at c.max.ensures)
    ∙ releases_more (nth a.since) (at a.release) (take a.n a.train) 32 l.j t l.released l.invariant here on.0 on.1)
