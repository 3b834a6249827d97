-- `listed::beside` meets its contract: each reply of the list has its own. Assumes nothing.
use Rattle.std.proofs.Common.{rules, to_z-of_z, w64}
use mir.Val.{SFits}
use Rattle.std.proofs.lemmas.Result.{err_from_is_err_and}
use Rattle.checker.specs.Judging.{beside_reply}
use Rattle.checker.proofs.listed.beside.Goals as goal

pub returns-in_err-list : goal.returns-in_err-list
unfolding beside_reply
returns-in_err-list c =
    let p = err_from_is_err_and c.from_residual.result c.from_residual.ensures.1 in
    rw (p.1, p.2, c.in_err-list.was)

pub is_listed-requires : goal.is_listed-requires
is_listed-requires c = c.requires c.in_ok-list.list.pairs c.in_ok-list.list.rounds c.in_ok-list.was

pub returns : goal.returns
unfolding beside_reply
returns c =
    let worst_fits : SFits w64 c.args.pair.worst = search rules in
    rw (c.in_ok-list.was, c.is_listed.ensures, to_z-of_z {w = w64} worst_fits)
