-- Laws of the figure (document 02, No. 6): how great it is at most, that no search exceeds it, and what a bound call answers. Assumes nothing.
use Rattle.std.proofs.Math.Path.{◌≡◌, refl, ap}
use Rattle.std.specs.Prelude.{◌⊎◌, length}
use Rattle.std.proofs.Math.Logic.{inl, inr}
use Prim.Native.Nat.{ℕ, zero, suc, ◌+◌, ◌-◌, ◌*◌, ◌≤◌, ◌<◌, min}
use native.Mathlib.Omega.{arith}
use Rattle.numbers.specs.Counting.{sum}
use Rattle.model.specs.Sheet.{Sheet, places}
use Rattle.model.specs.Limits.{most_pairs, order_counts, capacity_range}
use Rattle.model.specs.Refusal.{of_reply, number_of}
use Rattle.model.specs.Admission.{Admitted, admission}
use Rattle.model.proofs.AdmissionLaws.{admitted_means, admission_among, admission_returns, seven_means}
use Rattle.std.specs.Prelude.{Ok, Err}
use Rattle.model.specs.Replies.{Admission}
use Rattle.rounds.specs.Recording.{listed}
use Rattle.rounds.proofs.RecordingLaws.{listed_length}
use Rattle.rounds.specs.Rounds.{Search, going, ended, rounds_in, recorded_in}
use Rattle.rounds.specs.RoundsBound.{rounds_bound}
use Rattle.rounds.specs.Answers.{given}
use Rattle.rounds.specs.Areas.{after_tests}
use Rattle.rounds.proofs.AreaLaws.{Refuses, refuses_nothing}
use Rattle.rounds.specs.Bound.{bound, bound_reply}
use Rattle.rounds.proofs.SumLaws.{sum_le, sum_longer}
use Rattle.rounds.proofs.AimLaws.{Aim, rounds_of, recorded_of}
use Rattle.rounds.proofs.InvariantLaws.{reached, below_bound, ended_after}

-- ---- how great it is at most

places_most : (capacity : ℕ → ℕ) (k i : ℕ) → ((m : ℕ) → 1 ≤ m → m ≤ i → capacity m ≤ k) → places capacity i ≤ k * i
unfolding places
places_most capacity k zero h = omega arith
places_most capacity k (suc i) h = omega (arith, h (suc i) (omega arith) (omega arith), places_most capacity k i (λ m l u. h m l (omega arith)))

-- the summand of train m + 1 where there are 200 orders, and 64 places on each train
abbrev most_at : ℕ → ℕ
most_at m = min order_counts.most (capacity_range.most * suc m)

all_of_them : sum most_at 31 + 1 ≡ most_pairs
unfolding sum
all_of_them = refl

module _ (s : Sheet) (a : Admitted s) where
  -- NO SHEET HAS A GREATER ONE THAN 5,985
  pub bound_most : rounds_bound s ≤ most_pairs
  unfolding rounds_bound
  bound_most =
      let few = s.trains - 1 in
      let rest : few + (31 - few) ≡ 31 = omega (arith, a.few.trains) in
      let longer = rw rest at (sum_longer most_at few (31 - few)) in
      let each = sum_le (λ m. min s.orders (places s.capacity (suc m))) most_at few summand in
      omega (arith, each, longer, all_of_them)
    where
      summand : (m : ℕ) → m < s.trains - 1 → min s.orders (places s.capacity (suc m)) ≤ most_at m
      summand m l =
          omega (
            arith,
            a.few.orders,
            places_most s.capacity capacity_range.most (suc m) (λ i p u. (a.within_range.capacity i p (omega arith)).1),
          )

-- ---- no search exceeds it

module _ (s : Sheet) (a : Aim s) where
  -- "no search makes more rounds than that", however often it is moved
  pub no_more_rounds : (k : ℕ) → rounds_in (rounds_of s a k) ≤ rounds_bound s
  no_more_rounds k = go (rounds_of s a k) refl
    where
      go : (x : Search) → rounds_of s a k ≡ x → rounds_in x ≤ rounds_bound s
      go (going c latest y recorded) u = let (made, below) = below_bound s a k c latest y recorded u in omega arith
      go (ended c recorded) u = (ended_after s a k c recorded u).bounded

  -- "and lists no more pairs"
  pub no_more_pairs : (k : ℕ) → length (listed (recorded_of s a k)) ≤ rounds_bound s
  no_more_pairs k = omega (arith, listed_length (recorded_of s a k), few_entries (rounds_of s a k) refl, no_more_rounds k)
    where
      few_entries : (x : Search) → rounds_of s a k ≡ x → length (recorded_in x) ≤ rounds_in x
      few_entries (going c latest y recorded) u = (reached s a k c latest y recorded u).on_record.few
      few_entries (ended c recorded) u = (ended_after s a k c recorded u).on_record.few

-- ---- what a bound call answers

module _ (s : Sheet) where
  pub bound_admitted : Admitted s → bound s ≡ given (rounds_bound s)
  unfolding bound after_tests
  bound_admitted a = ap (λ (t : Admission). after_tests t (given (rounds_bound s))) ((admitted_means s).1 a)

  -- a figure is given of an admitted sheet only, and it is the sheet's
  pub bound_given : (most : ℕ) → bound s ≡ given most → Admitted s × (most ≡ rounds_bound s)
  unfolding bound after_tests
  bound_given most e = go (admission s) refl e
    where
      go : (t : Admission) → admission s ≡ t → after_tests t (given (rounds_bound s)) ≡ given most → Admitted s × (most ≡ rounds_bound s)
      go (Ok _) u v = ((admitted_means s).0 u, cc)
      go (Err r) u v = absurd (let z : ◌≡◌ {A = ℕ} 0 1 = cc in omega arith)

  -- else the refusal is one of "4, 5, 2, 6 and 7"
  pub record BoundRefuses (x : Admission) : Type 0 where
    pub among : (number_of x ≡ 0) ⊎ ((number_of x ≡ 2) ⊎ ((4 ≤ number_of x) × (number_of x ≤ 7)))
    pub as_any : Refuses s x

  pub bound_refuses : BoundRefuses (of_reply (bound_reply (bound s)))
  unfolding bound after_tests bound_reply
  bound_refuses = go (admission s) refl
    where
      go : (t : Admission) → admission s ≡ t → BoundRefuses (of_reply (bound_reply (after_tests t (given (rounds_bound s)))))
      go (Ok _) u = record { among = inl refl; as_any = refuses_nothing s }
      go (Err r) u =
          record {
            among = inr (admission_among r s u);
            as_any = record { returns_zero = admission_returns r s u; seven = seven_means r s u };
          }
