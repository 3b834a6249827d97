-- `fit::fits_from` meets its contract: `fit` is the test of the places passed, and whether the rows are sound. Assumes nothing.
use Rattle.std.proofs.Common.{◌≡◌, ◌&&◌, ltb}
use Rattle.numbers.specs.Counting.{at, every}
use Rattle.model.specs.Limits.{◌–◌}
use Rattle.foreign.specs.Gathered.{place_in}
use Rattle.foreign.proofs.fit.fits_from.Given as goal

abbrev pub invariant-loop-j : goal.invariant-loop-j
invariant-loop-j l = l.fit ≡ (every (λ i. place_in (l.least – l.q) (ltb i l.n) (at l.fn.given.train i)) l.j && l.initial.fit)
