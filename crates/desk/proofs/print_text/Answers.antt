-- `print_text` meets its contract: whatever is printed of a text fits the page. Assumes nothing.
use Rattle.std.proofs.Common.{◌≤◌, arith, length, ap, sym, ◌∙◌, Some, unwrap_or}
use Rattle.desk.proofs.FitLaws.{text_fits}
use Rattle.desk.proofs.PrintingLaws.{told_all, all_printed}
use Rattle.desk.proofs.print_text.Goals as goal

pub returns : goal.returns
returns c =
    let p = c.put_text.ensures in
    let fit : length p.bytes ≤ length c.args.page.now =
    omega (arith, c.told-page, text_fits c.args.text.now p.bytes (omega (arith, c.well_formed)) p.of_text) in
    let told = told_all _ _ _ _ p fit in
    all_printed _ _ _ _ p fit _ (told ∙ ap Some (sym (c.unwrap_or.ensures ∙ ap (λ r. unwrap_or r 0) told)))
