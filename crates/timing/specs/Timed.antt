-- What the timing code asks of a loading, and what its results say of q trains.
use Rattle.std.specs.Prelude.{◌≡◌, Option, Some, None, List, [], ℕ, suc, ◌≤◌, ◌<◌, length, take}
use Rattle.numbers.specs.Counting.{at}
use Rattle.model.specs.Sheet.{Sheet}
use Rattle.model.specs.Limits.{last_instant, train_counts}
use Rattle.columns.specs.Columns.{UpTo}
use Rattle.rounds.specs.Timing.{Departed, none, departed, Timed, stopped, timed}
use Rattle.rounds.specs.Rounds.{times_from}
use Rattle.timing.specs.declared.Leaving.{Leaving}
use Rattle.timing.specs.declared.Times.{Times}

-- each of n orders is on a train
abbrev pub OnTrains : (n : ℕ) (train : List ℕ) → Type 0
OnTrains n train = (j : ℕ) → j < n → (1 ≤ at train j) × (at train j ≤ train_counts.most)

-- one more than the last instant
abbrev pub never : ℕ
never = suc last_instant

-- the departures of q trains with their windows: none where one of them never leaves
abbrev pub departed_in : (q : ℕ) → Option Leaving → Departed
departed_in q None = none
departed_in q (Some r) = departed (take q r.departure) (take q r.window)

-- the times of q trains: none where step 2 stops the round
abbrev pub timed_in : (q : ℕ) → Option Times → Timed
timed_in q None = stopped
timed_in q (Some r) = timed (take q r.departure) (take q r.arrival) (take q r.window)

-- the times of a loading where train i may leave from `since i` on: places and latest trains have no part in them
abbrev pub times_since : Sheet → (since : ℕ → ℕ) (train : List ℕ) → Timed
times_since s since = times_from s (record { capacity = s.capacity; latest = []; since = since })

-- the first m windows, which end then, are over at instant t
abbrev pub WindowsOver : (to : List ℕ) (t m : ℕ) → Type 0
WindowsOver to t m = (k : ℕ) → k < m → at to k < t

-- trains 1 to i have left
abbrev pub HaveLeft : (i : ℕ) (departure : List ℕ) → Type 0
HaveLeft i l = (length l ≡ train_counts.most) × UpTo last_instant i l
