-- `put_plan` meets its contract: the wish is for the last listed arrival, so a plan is chosen, and it is printed. Assumes nothing.
use Rattle.std.proofs.Common.{refl}
use Rattle.model.specs.Memory.{sheet_of}
use Rattle.rounds.specs.Told.{areas}
use Rattle.desk.proofs.PrintingLaws.{chosen_last, never_refused, plan_printed}
use Rattle.desk.proofs.put_plan.Goals as goal

-- a refusal is told only where there is none
pub returns-in-Err : goal.returns-in-Err
returns-in-Err c =
    let a = c.args in
    let s = sheet_of a.sheet in
    let left = areas c.choose-choice.new.train_of_order c.choose-choice.new.times in
    let chosen =
    chosen_last s a.count a.rounds a.pairs.now c.choose-choice.result left c.requires c.last_arrival-wish.result c.last_arrival-wish.ensures
    _ refl refl c.choose-choice.ensures
    in
    absurd (never_refused s a.count a.rounds a.pairs.now c.choose-choice.result left chosen c.in-Err.refusal c.in-Err.is)

pub returns : goal.returns
returns c =
    let a = c.args in
    let s = sheet_of a.sheet in
    let left = areas c.choose-choice.new.train_of_order c.choose-choice.new.times in
    let chosen =
    chosen_last s a.count a.rounds a.pairs.now c.choose-choice.result left c.requires c.last_arrival-wish.result c.last_arrival-wish.ensures
    _ refl refl c.choose-choice.ensures
    in
    plan_printed s a.count a.rounds a.pairs.now c.choose-choice.result left chosen a.text.now a.names
    _ _ _ c.first_pairs-listed.ensures c.first_orders-loaded.ensures c.first_times-timed.ensures c.print_plan.ensures
