-- What the search of an admitted sheet has found at its end. Assumes nothing.
use Rattle.std.proofs.Common.{sym, subst, arith}
use Rattle.std.specs.Prelude.{List, [], ◌∷◌, ◌++◌, ℕ, ◌≤◌, ℤ, length, ◌<ℤ◌}
use Rattle.numbers.specs.SignedLaws.{≮ℤ_≤ℤ}
use Rattle.numbers.specs.OneMoreLaws.{All, Some, more_length}
use Rattle.model.specs.Sheet.{Sheet}
use Rattle.model.specs.Lateness.{pair_of}
use Rattle.rounds.specs.Recording.{Entry, listed, no_pair, no_entry}
use Rattle.rounds.proofs.RecordingLaws.{listed_behind, listed_length, listed_at}
use Rattle.rounds.specs.EntryPlan.{EntryPlanAmong}
use Rattle.rounds.specs.Rounds.{Search, ended}
use Rattle.rounds.specs.RoundsBound.{rounds_bound}
use Rattle.rounds.specs.Answers.{Listing}
use Rattle.rounds.proofs.PairListLaws.{Rising, rising_more}
use Rattle.rounds.proofs.AimLaws.{Aim, search_of, below_first}
use Rattle.rounds.proofs.FrontSoFarLaws.{Belongs, belongs_to, Matches, FrontSoFar, Recorded, nothing_yet, so_far}
use Rattle.rounds.proofs.InvariantLaws.{Over, at_end, search_over}

-- there is no schedule
abbrev pub Unschedulable : (s : Sheet) → Aim s → Type 0
Unschedulable s a = (train departure : List ℕ) → ¬ a.Among train departure

-- a listing is the front, by rising arrival, of no more rounds and pairs than the bound
pub record ListsFront (s : Sheet) (a : Aim s) (l : Listing) : Type 0 where
  pub belong : All no_pair (Belongs s a) l.pairs
  pub cover : (train departure : List ℕ) → a.Among train departure → Some no_pair (Matches s train departure) l.pairs
  pub rise : Rising l.pairs
  pub not_empty : 1 ≤ length l.pairs
  pub few_rounds : l.rounds ≤ rounds_bound s
  pub few_pairs : length l.pairs ≤ rounds_bound s

-- what is listed of c rounds
abbrev pub listing_with : (c : ℕ) → List Entry → Listing
listing_with c recorded = record { pairs = listed recorded; rounds = c }

-- nothing is recorded, and there is no schedule; or entries are, each with its plan, and their pairs are listed
pub data Found (s : Sheet) (a : Aim s) : Search → Type 0 where
  nothing : {c : ℕ} → Unschedulable s a → Found s a (ended c [])
  entries : {c : ℕ} (recorded : List Entry) → 1 ≤ length recorded → All no_entry (EntryPlanAmong s a.Among) recorded → ListsFront s a (listing_with c recorded)
      → Found s a (ended c recorded)

module _ (s : Sheet) (a : Aim s) where
  listing_is : (before : List Entry) (e : Entry) (c : ℕ) → FrontSoFar s a (listed before) e.pair
      → All no_entry (EntryPlanAmong s a.Among) (before ++ (e ∷ []))
      → ((train departure : List ℕ) → a.Among train departure → ¬ ((pair_of s train departure).worst <ℤ e.pair.worst))
      → c ≤ rounds_bound s → length (before ++ (e ∷ [])) ≤ c → ListsFront s a (listing_with c (before ++ (e ∷ [])))
  listing_is before e c h plans none_below few_rounds few =
      let pairs = listed_behind before e in
      let many = listed_length (before ++ (e ∷ [])) in
      record {
        belong = λ k l. rw (listed_at (before ++ (e ∷ [])) k) (belongs_to s a _ (plans k (omega arith)));
        cover = λ train departure l. rw pairs (h.covers train departure l (≮ℤ_≤ℤ (none_below train departure l)));
        rise = rw pairs (rising_more (listed before) e.pair h.rising h.beyond);
        not_empty = omega (arith, more_length no_entry before e);
        few_rounds = few_rounds;
        few_pairs = omega arith;
      }

  found_is : (x : Search) → Over s a x → Found s a x
  found_is x (at_end {c = c} {recorded = recorded} h) = go recorded h.on_record.front h.on_record.plans h.on_record.few
    where
      go : (recorded : List Entry) → Recorded s a h.limit recorded → All no_entry (EntryPlanAmong s a.Among) recorded → length recorded ≤ c
          → Found s a (ended c recorded)
      go recorded (nothing_yet e) plans few =
          nothing (λ train departure l. h.none_below train departure l
          (subst (λ (y : ℤ). (pair_of s train departure).worst <ℤ y) (sym e) (below_first s a train departure l)))
      go recorded (so_far before e u H) plans few =
          entries (before ++ (e ∷ [])) (omega (arith, more_length no_entry before e)) plans
          (listing_is before e c H plans
          (λ train departure l w. h.none_below train departure l (subst (λ (y : ℤ). (pair_of s train departure).worst <ℤ y) (sym u) w)) h.bounded few)

  -- THE SEARCH FINDS THE FRONT, OR THAT THERE IS NO SCHEDULE
  pub found : Found s a (search_of s a)
  found = found_is (search_of s a) (search_over s a)
