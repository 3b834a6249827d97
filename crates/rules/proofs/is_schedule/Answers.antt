-- `rules::is_schedule` meets its contract: the three tests of the code are the last three of the model's, and the others pass. Assumes nothing.
use Rattle.std.proofs.Common.{◌≡◌, sym, rules, arith, length}
use Rattle.model.specs.Memory.{sheet_of}
use Rattle.rules.proofs.RulesLaws.{all_ride, tests_schedule}
use Rattle.rules.proofs.is_schedule.Goals as goal

pub returns : goal.returns
returns c =
    let a = c.args in
    let few = c.args.sheet.admitted.few in
    let trains_long : length a.train ≡ 200 = search rules in
    let departures_long : length a.departure ≡ 32 = search rules in
    rw (
      c.have_room-room.ensures,
      c.are_released-released.ensures,
      all_ride a.sheet.columns.release a.departure a.train a.sheet.columns.order_count (λ j l. (c.requires j l).0),
      c.are_allowed-allowed.ensures,
    )
    (sym (tests_schedule (sheet_of a.sheet.columns) a.train a.departure c.requires (omega (arith, trains_long, few.orders))
    (omega (arith, departures_long, few.trains))))
