-- `search::fit::fits` meets its contract: each part has its test. Assumes nothing.
use native.Mathlib.Omega.{arith}
use Rattle.model.proofs.MemoryLaws.{few_places}
use Rattle.search.proofs.fit.fits.Goals as goal

pub is_crowded-requires : goal.is_crowded-requires
is_crowded-requires c =
    let a = c.args.sheet.admitted in
    (a.few.orders, a.few.trains, few_places c.args.sheet.columns a, omega (arith, a.roomy))
