-- `gone::behind::since_behind` meets its contract: the first instants are the departures. Assumes nothing.
use Rattle.std.proofs.Common.{◌≡◌, arith, rules, length, replicate}
use Rattle.gone.proofs.FillLaws.{filled_copied}
use Rattle.gone.proofs.behind.since_behind.Goals as goal

pub returns : goal.returns
returns c =
    let a = c.args in
    let long : length a.departure ≡ 32 = search rules in
    filled_copied a.departure (replicate 32 a.minute) _ a.gone (omega arith) c.copy_from_slice.ensures.after
