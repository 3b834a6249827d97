-- What holds where a round is begun, and what its parts leave in the progress r of the progress p.
use Rattle.std.specs.Prelude.{◌≡◌, false, cond, Some, None, ℕ, ◌<◌, ℤ, take}
use Rattle.std.specs.Int.Signed.{lt_z}
use Rattle.model.specs.Sheet.{Sheet}
use Rattle.rounds.specs.Outset.{Outset, ordinary}
use Rattle.rounds.specs.Lowering.{lower, crowded}
use Rattle.rounds.specs.RoundsBound.{rounds_bound}
use Rattle.columns.specs.Columns.{UpTo}
use Rattle.timing.specs.declared.Times.{Times}
use Rattle.search.specs.Shows.{BeginsFromOutset}
use Rattle.search.specs.declared.Progress.{Progress}

-- a round can be made from it: each order has a latest train of the sheet, they are not crowded, the trains are orderly, and fewer rounds were made than the
-- sheet's figure
pub record BegunFrom (s : Sheet) (o : Outset) (p : Progress) : Type 0 where
  pub orderly : BeginsFromOutset s o p
  pub latest : UpTo s.trains s.orders p.latest
  pub uncrowded : crowded s.orders o.capacity (take s.orders p.latest) s.trains ≡ false
  pub within : p.rounds < rounds_bound s

-- from the sheet alone
abbrev pub Begun : Sheet → Progress → Type 0
Begun s = BegunFrom s (ordinary s)

-- step 3 of a plan with the times t, the worst lateness z and the last arrival f: where it is better, its times are recorded, and z and f are the limit and
-- the arrival recorded last
abbrev pub Graded : (p r : Progress) (t : Times) (z : ℤ) (f : ℕ) → Type 0
Graded p r t z f =
    let better = lt_z z p.limit in
    (r.recorded ≡ cond better (Some t) None) × (r.limit ≡ cond better z p.limit) × (r.last ≡ cond better f p.last)

-- steps 4 and 5, where train i arrives at F i
abbrev pub SettledFrom : Sheet → Outset → (p r : Progress) (F : ℕ → ℕ) → Type 0
SettledFrom s o p r F =
    (take s.orders r.latest ≡ lower s.orders s.weight s.due F r.limit (take s.orders p.latest))
    × (r.ended ≡ crowded s.orders o.capacity (take s.orders r.latest) s.trains)

-- from the sheet alone
abbrev pub Settled : Sheet → (p r : Progress) (F : ℕ → ℕ) → Type 0
Settled s = SettledFrom s (ordinary s)
