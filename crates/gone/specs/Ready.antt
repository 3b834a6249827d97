-- What a search behind gone trains sets out from, or why there is none.
use Rattle.std.specs.Prelude.{◌≡◌, cond, Result, Ok, Err}
use Rattle.model.specs.Sheet.{Sheet}
use Rattle.model.specs.Memory.{sheet_of}
use Rattle.model.specs.Gone.{Gone, went_well}
use Rattle.model.specs.Replies.{Admission}
use Rattle.model.specs.Refusal.{of_reply}
use Rattle.model.specs.declared.Refusal.{Refusal}
use Rattle.model.specs.declared.Refusal.TheVariants.{NoSchedule, GoneWrong}
use Rattle.model.specs.declared.Sheet as memory
use Rattle.rounds.specs.Replan.{behind, outnumbered}
use Rattle.rounds.specs.SettingOut.{Sets, Agree}
use Rattle.search.specs.Setting.{outset_of}
use Rattle.search.specs.declared.Outset.{Outset}

-- 21, then 8 for want of places
abbrev pub gone_tested : Sheet → Gone → Admission
gone_tested s g = cond (went_well s g) (cond (outnumbered s g) (Err NoSchedule) (Ok tt)) (Err GoneWrong)

-- a search can be made from the columns, if any
abbrev pub CanSetOut : memory.Sheet → Result Outset Refusal → Type 0
CanSetOut m r = (o : Outset) → r ≡ Ok o → Sets (sheet_of m) (outset_of m.order_count o)

pub record SetOut (m : memory.Sheet) (g : Gone) (r : Result Outset Refusal) : Type 0 where
  pub is : of_reply r ≡ gone_tested (sheet_of m) g
  -- the columns are the outset behind the gone trains, and a search can be made from them
  pub columns : (o : Outset) → r ≡ Ok o → Agree m.train_count (outset_of m.order_count o) (behind (sheet_of m) g)
  pub sets : CanSetOut m r
