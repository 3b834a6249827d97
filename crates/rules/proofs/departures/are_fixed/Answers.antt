-- `rules::departures::are_fixed` meets its contract: two lists are the same where each departure is. Assumes nothing.
use Rattle.std.proofs.Common.{◌≡◌, arith, rules, length}
use Rattle.std.proofs.lemmas.Bool.Decides.{Decides-eqb}
use Rattle.std.proofs.lemmas.Slice.Eq.{slice_eq-Decides}
use Rattle.rules.proofs.RulesLaws.{same_by_number}
use Rattle.rules.proofs.departures.are_fixed.Goals as goal

pub returns : goal.returns
returns c =
    let a = c.args in
    let departures_long : length a.departure ≡ 32 = search rules in
    let fixed_long : length a.fixed ≡ 32 = search rules in
    same_by_number a.departure a.fixed a.q (omega arith) (omega arith) _ (slice_eq-Decides Decides-eqb _ _ _ c.eq.ensures)
