-- `rules::pair::pair_of` meets its contract: a schedule's arrivals are in the table's range, and its pair is found from them. Assumes nothing.
use Rattle.std.proofs.Common.{arith, to_z-of_z, w64}
use Rattle.model.specs.Memory.{sheet_of}
use Rattle.columns.proofs.ColumnLaws.{loaded_column}
use Rattle.lowering.proofs.RangedLaws.{in_ranges, arrives}
use Rattle.rules.proofs.RulesLaws.{leaves_in_time, arrives_in_time, arrival_is, worst_is}
use Rattle.rules.proofs.pair.pair_of.Goals as goal

pub arrive-arrival-requires : goal.arrive-arrival-requires
arrive-arrival-requires c =
    let a = c.args in
    leaves_in_time (sheet_of a.sheet.columns) a.sheet.admitted a.train a.departure c.requires

pub worst_of-worst-requires : goal.worst_of-worst-requires
worst_of-worst-requires c =
    let m = c.args.sheet.columns in
    let a = c.args.sheet.admitted in
    let h = c.requires in
    let r = c.arrive-arrival in
    let in_time = arrives_in_time (sheet_of m) a c.args.train c.args.departure h r.result r.ensures in
    (a.complete.orders, in_ranges m a, arrives m a c.args.train r.result (loaded_column (sheet_of m) c.args.train h.on_a_train) in_time)

pub returns : goal.returns
returns c =
    let found = c.worst_of-worst in
    let m = sheet_of c.args.sheet.columns in
    let a = c.args.sheet.admitted in
    let h = c.requires in
    let r = c.arrive-arrival in
    let last = arrival_is m a c.args.train c.args.departure h r.result r.ensures m.trains a.complete.trains (omega arith) in
    let worst = worst_is m a c.args.train c.args.departure h r.result r.ensures in
    rw (c.last_of-last.ensures, last, to_z-of_z {w = w64} {z = found.result} (record { sfits = found.type_inv }), found.ensures, worst)
