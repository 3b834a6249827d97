-- DOCUMENT 01, "THE ROUNDS": A ROUND, AND THE ROUNDS, from an outset; at the end those of document 01 itself, from the sheet alone.
use Rattle.std.specs.Prelude.{cond, List, [], ℕ, zero, suc, ℤ, pos}
use Rattle.std.specs.Int.Signed.{lt_z}
use Rattle.numbers.specs.Counting.{nth}
use Rattle.model.specs.Sheet.{Sheet}
use Rattle.model.specs.Limits.{first_limit}
use Rattle.model.specs.Lateness.{greatest_lateness, worst}
use Rattle.rounds.specs.Outset.{Outset, ordinary}
use Rattle.rounds.specs.Loading.{load}
use Rattle.rounds.specs.Timing.{awaited, Timed, stopped, timed, timing}
use Rattle.rounds.specs.Recording.{Plan, Entry, record_entry}
use Rattle.rounds.specs.Lowering.{lower, crowded}
use Rattle.rounds.specs.RoundsBound.{rounds_bound}

-- Between rounds: how many were made ("the number of loadings made, the stopping one included"), each order's latest train, the limit y, and what
-- is recorded. An ended search keeps its count and what is recorded.
pub data Search : Type 0 where
  going : (rounds : ℕ) (latest : List ℕ) (y : ℤ) (recorded : List Entry) → Search
  ended : (rounds : ℕ) (recorded : List Entry) → Search

-- how many rounds were made, and what is recorded, whether the search goes on or has ended
abbrev pub rounds_in : Search → ℕ
rounds_in (going c latest y recorded) = c
rounds_in (ended c recorded) = c

abbrev pub recorded_in : Search → List Entry
recorded_in (going c latest y recorded) = recorded
recorded_in (ended c recorded) = recorded

-- "There is a limit y, at first above everything": above every weighted lateness of an admitted sheet (`below_everything` in ScheduleLaws.antt)
abbrev pub above_everything : ℤ
above_everything = pos first_limit

-- "Each order has a latest train, at first q.": at first that of the outset
unfoldable pub start_from : Outset → Search
start_from o = going 0 o.latest above_everything []

-- steps 1 and 2
abbrev pub loading_from : Sheet → Outset → (latest : List ℕ) → List ℕ
loading_from s o latest = load s.orders s.trains s.release o.capacity latest

abbrev pub times_from : Sheet → Outset → (train : List ℕ) → Timed
times_from s o train = timing s.paths s.trains (awaited o.since s.release train s.orders)

-- step 2 of round 1
abbrev pub first_timing_from : Sheet → Outset → Timed
first_timing_from s o = times_from s o (loading_from s o o.latest)

-- steps 4 and 5, at the limit y
unfoldable pub settle : Sheet → Outset → (rounds : ℕ) (latest : List ℕ) (y : ℤ) (recorded : List Entry) (F : ℕ → ℕ) → Search
unfolding lower crowded
settle s o c latest y recorded F =
    let lowered : List ℕ = lower s.orders s.weight s.due F y latest in
    cond (crowded s.orders o.capacity lowered s.trains) (ended c recorded) (going c lowered y recorded)

-- step 3: "Let z be the greatest weighted lateness. If z < y, record the pair (F_q, z) and this plan, and set y to z."
unfoldable pub grade : Sheet → Outset → (rounds : ℕ) (latest : List ℕ) (y : ℤ) (recorded : List Entry) (plan : Plan) → Search
unfolding greatest_lateness settle record_entry
grade s o c latest y recorded plan =
    let F : ℕ → ℕ = nth plan.arrival in
    let z : ℤ = worst s plan.train F in
    cond (lt_z z y)
    (settle s o c latest z (record_entry recorded (record { pair = record { last = F s.trains; worst = z }; plan = plan })) F)
    (settle s o c latest y recorded F)

-- step 2, once the timing is known
unfoldable pub depart : Sheet → Outset → (rounds : ℕ) (latest : List ℕ) (y : ℤ) (recorded : List Entry) (train : List ℕ) → Timed → Search
unfolding grade
depart s o c latest y recorded train stopped = ended c recorded
depart s o c latest y recorded train (timed departure arrival window) =
    grade s o c latest y recorded record { train = train; departure = departure; arrival = arrival; window = window }

-- "A round is:" steps 1 to 5. After the end a further round changes nothing.
unfoldable pub round_from : Sheet → Outset → Search → Search
unfolding load awaited timing depart
round_from s o (ended c recorded) = ended c recorded
round_from s o (going c latest y recorded) =
    let train : List ℕ = loading_from s o latest in depart s o (suc c) latest y recorded train (times_from s o train)

-- k rounds in a row
unfoldable pub rounds_from : Sheet → Outset → ℕ → Search → Search
unfolding round_from
rounds_from s o zero x = x
rounds_from s o (suc k) x = rounds_from s o k (round_from s o x)

-- what is recorded after k rounds
abbrev pub recorded_from : Sheet → Outset → ℕ → List Entry
recorded_from s o k = recorded_in (rounds_from s o k (start_from o))

-- The rounds, run to their end. They end by themselves: no search of an admitted sheet, from the sheet alone or from another outset that can be set out from
-- (`Sets` in SettingOut.antt), goes on after as many rounds as document 02's figure, and after the end a further round changes nothing (`over_by` and
-- `search_at_end` in InvariantLaws.antt).
unfoldable pub search_from : Sheet → Outset → Search
unfolding rounds_from start_from rounds_bound
search_from s o = rounds_from s o (rounds_bound s) (start_from o)

-- ---- document 01's own rounds: each of these from the sheet alone

abbrev pub start : Sheet → Search
start s = start_from (ordinary s)

abbrev pub loading : Sheet → (latest : List ℕ) → List ℕ
loading s = loading_from s (ordinary s)

abbrev pub times : Sheet → (train : List ℕ) → Timed
times s = times_from s (ordinary s)

abbrev pub first_timing : Sheet → Timed
first_timing s = first_timing_from s (ordinary s)

abbrev pub round : Sheet → Search → Search
round s = round_from s (ordinary s)

abbrev pub rounds : Sheet → ℕ → Search → Search
rounds s = rounds_from s (ordinary s)

abbrev pub recorded_after : Sheet → ℕ → List Entry
recorded_after s = recorded_from s (ordinary s)

abbrev pub search : Sheet → Search
search s = search_from s (ordinary s)
