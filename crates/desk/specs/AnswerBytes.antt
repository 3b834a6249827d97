-- WHAT IS PRINTED OF AN ADMITTED SHEET, as a function of what the rounds answer. AsBeforeLaws.antt shows that it is what the calls print.
use Rattle.std.specs.Prelude.{List, ℕ}
use Rattle.model.specs.Sheet.{Sheet}
use Rattle.rounds.specs.Recording.{Plan, Entry, last_entry}
use Rattle.rounds.specs.Rounds.{recorded_in, search}
use Rattle.rounds.specs.Answers.{Answer, refused, given, Listing}
use Rattle.rounds.specs.Areas.{pair_numbers, plan_times}
use Rattle.fields.specs.declared.NamePlaces.{NamePlaces}
use Rattle.layout.specs.Lines.{refusal_line}
use Rattle.printer.specs.PlanBytes.{plan_bytes}

-- the entry recorded last, with "the last recorded plan"
abbrev pub last_recorded : Sheet → Entry
last_recorded s = last_entry (recorded_in (search s))

module _ (text : List ℕ) (names : NamePlaces) (s : Sheet) where
  -- of a listing and a plan
  abbrev pub listing_bytes : Listing → Plan → List ℕ
  listing_bytes l x = plan_bytes text names (pair_numbers l.pairs) x.train (plan_times s x) l.rounds

  -- and of what the rounds answer
  abbrev pub answer_bytes : Answer Listing → List ℕ
  answer_bytes (refused r) = refusal_line r
  answer_bytes (given l) = listing_bytes l (last_recorded s).plan
