-- `orderly::find_skips` meets its contract: the loop's invariant is that the trains from i on are done. Assumes nothing.
use Rattle.std.proofs.Common.{◌+◌, replicate, length-set, refl, arith, ℕ}
use Rattle.orderly.proofs.BarLaws.{skip_first, skips_more}
use Rattle.orderly.proofs.find_skips.Goals as goal

pub loop-i-init : goal.loop-i-init
loop-i-init c =
    let q = c.args.q in (
      length-set {A = ℕ} (replicate 33 0) q (q + 1),
      skips_more q q c.args.bars.now (replicate 33 0) (q + 1) refl c.requires.0 c.requires.1 (skip_first q q c.args.bars.now (omega arith))
          (λ k a b. absurd (omega arith)),
    )
