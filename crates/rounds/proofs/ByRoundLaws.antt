-- Laws of a search that is moved by single calls: its start, the rounds made so far, and its end. Assumes nothing.
use Rattle.std.specs.Prelude.{◌≡◌, ℕ, ◌≤◌, ℤ, length}
use Rattle.std.proofs.Math.Path.{refl, sym, ap}
use Rattle.std.proofs.Common.{◌∙◌, subst, arith}
use mathlib.Core.List.{List, [], ◌∷◌, ◌++◌}
use Rattle.std.proofs.Math.Numerals.{add-one}
use Rattle.numbers.specs.DecidesLaws.{Decides, decides_and, decides_iff}
use Rattle.numbers.specs.OneMoreLaws.{All, all_new}
use Rattle.numbers.specs.Over.{over}
use Rattle.model.specs.Sheet.{Sheet}
use Rattle.model.specs.Refusal.{number_of}
use Rattle.model.specs.Admission.{Admitted}
use Rattle.model.proofs.AdmissionLaws.{admission_numbers}
use Rattle.model.specs.Replies.{Admission}
use Rattle.model.specs.declared.RoundReply.TheVariants.{GoesOn}
use Rattle.rounds.specs.Recording.{Entry, listed, no_entry, last_entry}
use Rattle.rounds.proofs.RecordingLaws.{FromEnd, nothing, behind, from_end, last_behind}
use Rattle.rounds.specs.Rounds.{Search, going, ended, rounds_in, recorded_in, start, round, rounds, recorded_after, search}
use Rattle.rounds.specs.Rounds.{round_from, rounds_from}
use Rattle.rounds.specs.RoundsBound.{rounds_bound}
use Rattle.rounds.specs.Outset.{ordinary}
use Rattle.rounds.proofs.RoundsLaws.{one_round_more}
use Rattle.rounds.specs.Answers.{Answer, refused, given, Listing, list_of, list, list_from, last_listed, chosen, choose, choose_from}
use Rattle.rounds.specs.Areas.{pair_numbers, list_left, plan_left}
use Rattle.rounds.proofs.AreaLaws.{decides_list_room, decides_plan_room, tested_so, Refuses, tests_refuse}
use Rattle.rounds.specs.ByRound.{SearchAreas, SearchRoom, search_room, start_to, Calls, started, then_round, then_look, round_calls}
use Rattle.rounds.specs.ByRound.{search_by, seen, end_of, said, last_plan, areas_by}
use Rattle.rounds.proofs.AimLaws.{whole}
use Rattle.rounds.proofs.InvariantLaws.{Over, at_end, over_by, search_at_end}
use Rattle.rounds.proofs.ChoosingLaws.{last_recorded_chosen}

-- ---- the start

-- test 10 of all three areas
pub decides_search_room : (s : Sheet) (lent : SearchAreas)
    → Decides (SearchRoom s lent) (search_room s (length lent.pairs) (length lent.plan.trains) (length lent.plan.times))
decides_search_room s lent =
    decides_iff (λ x. record { list = x.0; plan = x.1 }) (λ x. (x.list, x.plan))
    (decides_and (decides_list_room s lent.pairs) (decides_plan_room s lent.plan))

-- 8 is not among "the refusals up to 10" of a start, which are as in any call
pub record StartRefuses (s : Sheet) (x : Admission) : Type 0 where
  pub no_eight : ¬ (number_of x ≡ 8)
  pub as_any : Refuses s x

pub start_refuses : (s : Sheet) (lent : SearchAreas) → StartRefuses s (start_to s lent)
unfolding start_to
start_refuses s lent =
    record {
      no_eight = tested_so (λ x. ¬ (number_of x ≡ 8)) s _ (λ e. omega arith) (λ e. omega arith) (λ r u e. omega (arith, admission_numbers r s u));
      as_any = tests_refuse s _;
    }

-- ---- what a round call says

not_at_end : (x : Answer Listing) → ¬ (end_of x ≡ GoesOn)
unfolding end_of
not_at_end (refused r) e = let z : ◌≡◌ {A = ℕ} 0 1 = cc in omega arith
not_at_end (given l) e = let z : ◌≡◌ {A = ℕ} 0 1 = cc in omega arith

-- of a search that goes on, that it does; else the end
pub said_going : (c : ℕ) (latest : List ℕ) (y : ℤ) (recorded : List Entry) → said (going c latest y recorded) ≡ GoesOn
unfolding said
said_going c latest y recorded = refl

pub said_ended : (c : ℕ) (recorded : List Entry) → said (ended c recorded) ≡ end_of (list_of c recorded)
unfolding said
said_ended c recorded = refl

-- so what is not said to go on has ended
pub ended_so : (x : Search) → ¬ (said x ≡ GoesOn) → x ≡ ended (rounds_in x) (recorded_in x)
ended_so (going c latest y recorded) e = absurd (e (said_going c latest y recorded))
ended_so (ended c recorded) e = refl

-- ---- the last plan

-- there is one where something is recorded
pub last_plan_given : (entries : List Entry) → 1 ≤ length entries → last_plan entries ≡ given (last_entry entries)
unfolding last_plan
last_plan_given [] l = absurd (omega arith)
last_plan_given (e ∷ es) l = refl

-- it is the plan of one of the entries
last_plan_own : (P : Entry → Type 0) (entries : List Entry) → All no_entry P entries → (e : Entry) → last_plan entries ≡ given e → P e
unfolding last_plan
last_plan_own P entries all e u = go entries (from_end entries) all u
  where
    some : (before : List Entry) (x : Entry) → last_plan (before ++ (x ∷ [])) ≡ given x
    some [] x = refl
    some (y ∷ before) x = ap given (last_behind (y ∷ before) x)

    go : (es : List Entry) → FromEnd es → All no_entry P es → last_plan es ≡ given e → P e
    go es nothing f v = absurd (let z : ◌≡◌ {A = ℕ} 0 1 = cc in omega arith)
    go es (behind before x) f v =
        let u : ◌≡◌ {A = Answer Entry} (given x) (given e) = sym (some before x) ∙ v in
        let same : x ≡ e = cc in subst P same (all_new no_entry before x P f)

module _ (s : Sheet) where
  -- "A further round after the end changes nothing"
  pub no_more_rounds : (calls : Calls) (c : ℕ) (recorded : List Entry) → search_by s calls ≡ ended c recorded
      → search_by s (then_round calls) ≡ search_by s calls
  unfolding search_by round_from
  no_more_rounds calls c recorded e = ap (round s) e ∙ sym e

  -- "reading changes nothing"
  pub look_leaves : (calls : Calls) → search_by s (then_look calls) ≡ search_by s calls
  unfolding search_by
  look_leaves calls = refl

  -- ---- the rounds made so far

  -- THE SEARCH AFTER THESE CALLS IS THAT OF AS MANY ROUNDS
  pub made_so_far : (calls : Calls) → search_by s calls ≡ rounds s (round_calls calls) (start s)
  unfolding search_by round_calls rounds_from
  made_so_far started = refl
  made_so_far (then_round calls) = ap (round s) (made_so_far calls) ∙ sym (rw add-one at (one_round_more s (ordinary s) (round_calls calls) (start s)))
  made_so_far (then_look calls) = made_so_far calls

  -- a look gives what they have recorded
  pub seen_is : (calls : Calls) → seen s calls ≡ listed (recorded_after s (round_calls calls))
  seen_is calls = ap (λ x. listed (recorded_in x)) (made_so_far calls)

  -- WHAT HOLDS OF EACH ENTRY, AFTER ANY NUMBER OF ROUNDS, HOLDS OF THE LAST PLAN
  pub last_plan_so : (P : Entry → Type 0) → ((k : ℕ) → All no_entry P (recorded_after s k)) → (calls : Calls) (e : Entry)
      → last_plan (recorded_in (search_by s calls)) ≡ given e → P e
  last_plan_so P each calls =
      last_plan_own P (recorded_in (search_by s calls))
      (subst (λ (x : Search). All no_entry P (recorded_in x)) (sym (made_so_far calls)) (each (round_calls calls)))

module _ (s : Sheet) (a : Admitted s) where
  -- ---- the end

  -- "the round-by-round search ends within the same figure"
  pub end_comes : (calls : Calls) → rounds_bound s ≤ round_calls calls → ¬ (said (search_by s calls) ≡ GoesOn)
  end_comes calls l = go (search_by s calls) (subst (Over s (whole s a)) (sym (made_so_far s calls)) (over_by s (whole s a) (round_calls calls) l))
    where
      go : (x : Search) → Over s (whole s a) x → ¬ (said x ≡ GoesOn)
      go x (at_end {c = c} {recorded = recorded} h) e = not_at_end (list_of c recorded) (sym (said_ended c recorded) ∙ e)

  -- there it is the unbroken search
  pub end_is : (calls : Calls) → ¬ (said (search_by s calls) ≡ GoesOn) → search_by s calls ≡ search s
  end_is calls e =
      let u = ended_so (search_by s calls) e in
      u ∙ sym (search_at_end s (whole s a) (round_calls calls) _ _ (sym (made_so_far s calls) ∙ u))

  -- and "the list .. and count of the unbroken search, or its 8" are said
  pub said_at_end : (calls : Calls) → ¬ (said (search_by s calls) ≡ GoesOn) → said (search_by s calls) ≡ end_of (list s)
  unfolding list_from
  said_at_end calls e =
      ap said (ended_so (search_by s calls) e) ∙ said_ended _ _ ∙ ap (λ x. end_of (list_of (rounds_in x) (recorded_in x))) (end_is calls e)

  -- ---- the areas at the end

  pub pairs_at_end : (found : SearchAreas) → (areas_by s (search s) found).pairs ≡ list_left (list s) found.pairs
  unfolding areas_by list_from list_of list_left listed
  pairs_at_end found = go (rounds_in (search s)) (recorded_in (search s))
    where
      go : (c : ℕ) (recorded : List Entry) → over (pair_numbers (listed recorded)) found.pairs ≡ list_left (list_of c recorded) found.pairs
      go c [] = refl
      go c (e ∷ es) = refl

  -- the last plan is the one that is chosen for the last listed arrival
  last_plan_is : last_plan (recorded_in (search s)) ≡ choose s (last_listed (list s))
  unfolding choose_from chosen list_from list_of last_plan
  last_plan_is = go (recorded_in (search s)) refl
    where
      go : (recorded : List Entry) → recorded_in (search s) ≡ recorded
          → last_plan recorded ≡ chosen (last_listed (list_of (rounds_in (search s)) recorded)) recorded
      go [] u = refl
      go (e ∷ es) u = sym (rw u at (last_recorded_chosen s (whole s a) (ap (list_of (rounds_in (search s))) u)))

  pub plan_at_end : (found : SearchAreas) → (areas_by s (search s) found).plan ≡ plan_left s (choose s (last_listed (list s))) found.plan
  unfolding areas_by
  plan_at_end found = ap (λ x. plan_left s x found.plan) last_plan_is
