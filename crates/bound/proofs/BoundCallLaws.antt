-- A BOUND CALL THAT IS EQUAL TO THE DEFINITION KEEPS ITS WHOLE CONTRACT. Assumes nothing.
use Rattle.std.proofs.Math.Path.{◌≡◌, refl, ap}
use Rattle.std.proofs.Common.{sym, ◌∙◌, arith}
use Rattle.std.specs.Prelude.{List, ℕ, ◌≤◌}
use Rattle.model.specs.Sheet.{Sheet}
use Rattle.model.specs.Admission.{Admitted, admission}
use Rattle.std.specs.Prelude.{Ok, Err}
use Rattle.model.specs.Replies.{Admission, BoundReply}
use Rattle.model.specs.declared.Refusal.{Refusal}
use Rattle.rounds.specs.Recording.{Entry}
use Rattle.rounds.specs.Rounds.{Search, ended, start, rounds}
use Rattle.rounds.specs.RoundsBound.{rounds_bound}
use Rattle.rounds.specs.Answers.{Answer, refused, given}
use Rattle.rounds.specs.Areas.{after_tests}
use Rattle.rounds.proofs.AimLaws.{whole}
use Rattle.rounds.proofs.InvariantLaws.{Over, at_end, over_by}
use Rattle.rounds.specs.Bound.{bound, bound_reply}
use Rattle.rounds.proofs.BoundLaws.{no_more_rounds, no_more_pairs, bound_admitted, bound_given, bound_refuses}
use Rattle.bound.specs.BoundCall.{BoundCall}

-- ---- what the call returns

module _ (s : Sheet) (t : Admission) (is : t ≡ admission s) where
  -- the first test that fails
  pub told_refused : (r : Refusal) → t ≡ Err r → Err r ≡ bound_reply (bound s)
  unfolding bound bound_reply after_tests
  told_refused r e = ap (λ (x : Admission). bound_reply (after_tests x (given (rounds_bound s)))) (sym e ∙ is)

  -- or the figure
  pub told_figure : t ≡ Ok tt → Ok (rounds_bound s) ≡ bound_reply (bound s)
  unfolding bound bound_reply after_tests
  told_figure e = ap (λ (x : Admission). bound_reply (after_tests x (given (rounds_bound s)))) (sym e ∙ is)

-- ---- the contract

module _ (s : Sheet) (r : BoundReply) (equal : r ≡ bound_reply (bound s)) where
  -- a figure that is given is that of an admitted sheet
  pub given_so : (most : ℕ) → r ≡ Ok most → Admitted s × (most ≡ rounds_bound s)
  unfolding bound_reply
  given_so most e = go (bound s) refl (sym equal ∙ e)
    where
      go : (x : Answer ℕ) → bound s ≡ x → bound_reply x ≡ Ok most → Admitted s × (most ≡ rounds_bound s)
      go (refused f) u v = absurd (let z : ◌≡◌ {A = ℕ} 0 1 = cc in omega arith)
      go (given m) u v = let same : m ≡ most = cc in bound_given s most (u ∙ ap given same)

  figure_of : Admitted s → r ≡ Ok (rounds_bound s)
  unfolding bound_reply
  figure_of a = equal ∙ ap bound_reply (bound_admitted s a)

  has_ended : Admitted s → (k : ℕ) → rounds_bound s ≤ k → (c : ℕ) × (recorded : List Entry) × (rounds s k (start s) ≡ ended c recorded)
  has_ended a k l = go (rounds s k (start s)) (over_by s (whole s a) k l)
    where
      go : (x : Search) → Over s (whole s a) x → (c : ℕ) × (recorded : List Entry) × (x ≡ ended c recorded)
      go x (at_end {c = c} {recorded = recorded} h) = (c, recorded, refl)

  pub bound_call : BoundCall s r
  bound_call =
      record {
        equal = equal;
        figure = figure_of;
        no_more_rounds = λ most e k. let (a, is) = given_so most e in rw is (no_more_rounds s (whole s a) k);
        ends = λ most e k l. let (a, is) = given_so most e in has_ended a k (omega arith);
        no_more_pairs = λ most e k. let (a, is) = given_so most e in rw is (no_more_pairs s (whole s a) k);
        room = λ most e pairs. let (a, is) = given_so most e in (λ h. omega arith, λ h. omega arith);
        refuses = rw equal (bound_refuses s).among;
        returns_zero = rw equal (bound_refuses s).as_any.returns_zero;
        seven = rw equal (bound_refuses s).as_any.seven;
      }
