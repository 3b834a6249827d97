-- DOCUMENT 01, "THE PRINTED PLAN", AND DOCUMENT 02, NO. 1: WHAT IS PRINTED OF A TEXT.
use Rattle.std.specs.Prelude.{◌≡◌, cond, Option, Result, Ok, Err, List, ℕ, ◌*◌, ◌≤◌, eqb, ℤ, length, take}
use Rattle.numbers.specs.Counting.{at}
use Rattle.numbers.specs.Over.{over}
use Rattle.model.specs.Sheet.{Sheet}
use Rattle.model.specs.Memory.{sheet_of}
use Rattle.model.specs.Lateness.{Pair}
use Rattle.model.specs.Limits.{order_counts, numbers_a_pair, numbers_a_train, most_pair_numbers, most_time_numbers}
use Rattle.model.specs.declared.Form.{Form}
use Rattle.model.specs.declared.Form.TheVariants.{Windows, Timetable}
use Rattle.model.specs.declared.Refusal.{Refusal}
use Rattle.model.specs.declared.Sheet.{Sheet as SheetInMemory}
use Rattle.model.specs.Replies.{ListReply, chosen_as}
use Rattle.rounds.specs.Answers.{last_arrival_in}
use Rattle.rounds.specs.Areas.{PlanAreas}
use Rattle.fields.specs.declared.NamePlaces.{NamePlaces}
use Rattle.sheet.specs.Sheets.{reading}
use Rattle.sheet.specs.declared.Reading.{Reading}
use Rattle.planner.specs.InAreas.{pairs_in}
use Rattle.planner.specs.Listing.{ListingCall}
use Rattle.planner.specs.Choosing.{ChoosingCall}
use Rattle.writing.specs.Writing.{Prints}
use Rattle.layout.specs.Lines.{refusal_line}
use Rattle.printer.specs.PlanBytes.{plan_bytes}

-- "A first byte `X` means the timetable form": `X` is 88, and an empty text has no first byte
unfoldable pub form_of : List ℕ → Form
form_of text = cond (eqb (at text 0) 88) Timetable Windows

-- what is printed of a sheet for which `count` pairs were listed in this area, by so many rounds: a plan is chosen in areas of the greatest size
pub record PlanBytes (text : List ℕ) (names : NamePlaces) (s : Sheet) (count rounds : ℕ) (pairs : List ℤ) (bytes : List ℕ) : Type 0 where
  pub pair : Pair
  pub left : PlanAreas
  pub lent : PlanAreas
  pub trains_lent : length lent.trains ≡ order_counts.most
  pub times_lent : length lent.times ≡ most_time_numbers
  -- "`plan` wishes for the last listed arrival", and that wish is never refused
  pub call : ChoosingCall s (last_arrival_in (pairs_in count pairs)) (chosen_as pair.last pair.worst) left lent
  -- "and prints as before": the listed pairs, n trains and q times, which stand at the fronts of the areas, and the count
  pub printed : bytes
      ≡ plan_bytes text names (take (numbers_a_pair * count) pairs) (take s.orders left.trains) (take (numbers_a_train * s.trains) left.times) rounds

-- by what the listing call says: its refusal, or that
abbrev pub ListBytes : ListReply → (text : List ℕ) → NamePlaces → Sheet → (pairs : List ℤ) (bytes : List ℕ) → Type 0
ListBytes (Err refusal) text names s pairs bytes = bytes ≡ refusal_line refusal
ListBytes (Ok l) text names s pairs bytes = PlanBytes text names s l.pairs l.rounds pairs bytes

-- so of a sheet: its pairs are listed in an area of the greatest size
pub record SheetBytes (text : List ℕ) (names : NamePlaces) (s : Sheet) (bytes : List ℕ) : Type 0 where
  pub reply : ListReply
  pub left : List ℤ
  pub lent : List ℤ
  pub pairs_lent : length lent ≡ most_pair_numbers
  pub call : ListingCall s reply left lent
  pub printed : ListBytes reply text names s left bytes

-- by what the reading call says: "A refusal prints only `E,number,returned`", and of a sheet its pairs are listed
abbrev pub ReadBytes : (text : List ℕ) → Result (Reading SheetInMemory) Refusal → (bytes : List ℕ) → Type 0
ReadBytes text (Err refusal) bytes = bytes ≡ refusal_line refusal
ReadBytes text (Ok r) bytes = SheetBytes text r.names (sheet_of r.sheet) bytes

-- so of a text
abbrev pub TextBytes : (text bytes : List ℕ) → Type 0
TextBytes text bytes = ReadBytes text (reading (form_of text) text) bytes

-- WHAT IS PRINTED OF A TEXT: all its bytes, at the front of the page, behind which the page is as found; given is how many they are
pub record TextPrinted (text found : List ℕ) (given : ℕ) (after : List ℕ) : Type 0 where
  pub bytes : List ℕ
  pub of_text : TextBytes text bytes
  pub fit : length bytes ≤ length found
  pub all : given ≡ length bytes
  pub page : after ≡ over bytes found

-- the same where it may be that they do not fit
pub record Put (OfText : (bytes : List ℕ) → Type 0) (found : List ℕ) (r : Option ℕ) (after : List ℕ) : Type 0 where
  pub bytes : List ℕ
  pub of_text : OfText bytes
  pub prints : Prints bytes found r after
