-- `read_text` meets its contract: what a read gives stands behind what was read before. Assumes nothing.
use Rattle.std.proofs.Common.{◌≡◌, ℕ, ◌+◌, ◌-◌, ◌≤◌, List, ◌++◌, rules, length, take, sym, ap, ◌∙◌, subst, length-take-le}
use Rattle.std.proofs.lemmas.List.{take-append-le}
use Rattle.std.proofs.Math.Seq.{take-append-add}
use Rattle.std.specs.Io.KnownBytes.{Consumes}
use Rattle.std.proofs.KnownBytes.{Consumes-trans}
use borrow.Rule.Slice.PartMut.{put_mid, post_of}
use Rattle.report.proofs.read_text.Goals as goal

-- a text of which the places from `done` on were lent, and hold these bytes now
placed : (done count room : ℕ) (text bytes : List ℕ) → done ≤ length text → count ≤ length bytes
    → take (done + count) (put_mid done room text bytes) ≡ take done text ++ take count bytes
placed done count room text bytes within fits =
    subst (λ (m : ℕ). take (m + count) (put_mid done room text bytes) ≡ take done text ++ take count (bytes ++ post_of done room text))
    (length-take-le done text within) (take-append-add (take done text) (bytes ++ post_of done room text) count)
    ∙ ap (λ l. take done text ++ l) (take-append-le count bytes (post_of done room text) fits)

pub loop-done-preserved : goal.loop-done-preserved
loop-done-preserved g c =
    let done = c.loop-done.done in
    let text = c.loop-done.text in
    let left = g.R.Read.remaining in
    let here = placed done c.in_ok-count.count (length text - done) text c.read.new.buf c.loop-done.invariant.0 c.in_ok-count.ensures.bound.0 in
    let found = left c.args.reader.now in
    let both = Consumes-trans found (left c.loop-done.reader) (left c.read.new.self) _ _ c.loop-done.invariant.2 c.in_ok-count.ensures.bytes.0 in
    (search rules, search rules, subst (λ (l : List ℕ). Consumes found (left c.read.new.self) l) (sym here) both)
