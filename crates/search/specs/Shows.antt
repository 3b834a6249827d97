-- WHAT THE CODE'S PROGRESS SHOWS OF A SEARCH from an outset, and what a round leaves in it for its caller to record.
use Rattle.std.specs.Prelude.{◌≡◌, true, false, List, ℕ, ℤ, take}
use Rattle.std.specs.Option.{option_map_or}
use Rattle.model.specs.Sheet.{Sheet}
use Rattle.model.specs.Admission.{Few}
use Rattle.rounds.specs.Recording.{Entry, record_entry, recorded_arrival}
use Rattle.rounds.specs.Outset.{Outset, ordinary}
use Rattle.rounds.specs.Rounds.{Search, going, ended, recorded_in, start_from, round_from, rounds_from}
use Rattle.loading.specs.Orderly.{Orderly}
pub use Rattle.timing.specs.declared.Times.{Times}
use Rattle.search.specs.Setting.{outset_of}
use Rattle.search.specs.declared.Outset as memory
use Rattle.search.specs.declared.Progress.{Progress}

-- the rounds made, and while it goes on the latest trains of n orders and the limit
pub data Stands (n : ℕ) (p : Progress) : Search → Type 0 where
  goes_on : {c : ℕ} {latest : List ℕ} {y : ℤ} {recorded : List Entry} → p.ended ≡ false → p.rounds ≡ c → take n p.latest ≡ latest → p.limit ≡ y
      → Stands n p (going c latest y recorded)
  has_ended : {c : ℕ} {recorded : List Entry} → p.ended ≡ true → p.rounds ≡ c → Stands n p (ended c recorded)

-- its trains are such as the next loading may begin from
abbrev pub BeginsFromOutset : Sheet → Outset → Progress → Type 0
BeginsFromOutset s o p = Orderly s.orders s.trains s.release o.capacity p.latest p.train

-- from the sheet alone
abbrev pub BeginsFrom : Sheet → Progress → Type 0
BeginsFrom s = BeginsFromOutset s (ordinary s)

pub record ShowsFrom (s : Sheet) (o : Outset) (p : Progress) (x : Search) : Type 0 where
  pub orderly : BeginsFromOutset s o p
  pub stands : Stands s.orders p x
  -- the arrival of the pair recorded last
  pub last : p.last ≡ recorded_arrival (recorded_in x)

-- the start from these columns, of any sheet of few orders
abbrev pub Starts : memory.Outset → Progress → Type 0
Starts c p = (s : Sheet) → Few s → let o = outset_of s.orders c in ShowsFrom s o p (start_from o)

-- the pair and the plan that the last round left in the progress, with the plan's times
abbrev pub shown_entry : Sheet → Progress → Times → Entry
shown_entry s p t =
    record {
      pair = record { last = p.last; worst = p.limit };
      plan =
          record {
            train = take s.orders p.train;
            departure = take s.trains t.departure;
            arrival = take s.trains t.arrival;
            window = take s.trains t.window;
          };
    }

-- what is recorded after the last round: its plan too where it left the plan's times, else nothing more
abbrev pub recorded_by : Sheet → Progress → List Entry → List Entry
recorded_by s p entries = option_map_or (λ t. record_entry entries (shown_entry s p t)) p.recorded entries

-- of the search x that was shown before it the round has made the next one, and left in the progress r what it recorded
pub record RoundMadeFrom (s : Sheet) (o : Outset) (r : Progress) (x : Search) : Type 0 where
  pub shows : ShowsFrom s o r (round_from s o x)
  pub records : recorded_in (round_from s o x) ≡ recorded_by s r (recorded_in x)

abbrev pub MakesFrom : Sheet → Outset → (before after : Progress) → Type 0
MakesFrom s o p r = (x : Search) → ShowsFrom s o p x → RoundMadeFrom s o r x

-- the search after so many rounds is shown
pub record ReachedFrom (s : Sheet) (o : Outset) (p : Progress) : Type 0 where
  pub made : ℕ
  pub shows : ShowsFrom s o p (rounds_from s o made (start_from o))

-- ---- of document 01's own rounds: each of these from the sheet alone

abbrev pub Shows : Sheet → Progress → Search → Type 0
Shows s = ShowsFrom s (ordinary s)

abbrev pub RoundMade : Sheet → Progress → Search → Type 0
RoundMade s = RoundMadeFrom s (ordinary s)

abbrev pub Makes : Sheet → (before after : Progress) → Type 0
Makes s = MakesFrom s (ordinary s)

abbrev pub Reached : Sheet → Progress → Type 0
Reached s = ReachedFrom s (ordinary s)
