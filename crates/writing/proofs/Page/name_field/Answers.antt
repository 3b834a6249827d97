-- `name_field` meets its contract: the loop's invariant is that the bytes passed are put behind the comma. Assumes nothing.
use Rattle.std.proofs.Common.{◌<◌, ◌+◌, ◌≡◌, sym, [], ◌∷◌, ◌++◌, arith, add-one, length, take, get_or, take-suc, take_all}
use Rattle.writing.proofs.WritingLaws.{puts_none, puts_then, puts_cons, puts_same}
use Rattle.writing.proofs.Page.name_field.Goals as goal

pub loop-byte-init : goal.loop-byte-init
loop-byte-init c = puts_none c.put.new.self

pub loop-byte-preserved : goal.loop-byte-preserved
loop-byte-preserved c =
    let i = c.loop-byte.byte-index in
    let name = c.args.name.now in
    let h : i < length name = omega arith in
    let e : take (i + 1) name ≡ take i name ++ (get_or name i 0 ∷ []) = rw (add-one i) (take-suc name i 0 h) in
    puts_same (sym e) (puts_then _ _ c.loop-byte.invariant c.put-in-loop-byte.ensures)

pub returns : goal.returns
returns c =
    let all = take_all c.loop-byte.byte-index c.args.name.now (omega arith) in
    puts_cons _ _ _ _ _ c.put.ensures (puts_same all c.loop-byte.invariant)
