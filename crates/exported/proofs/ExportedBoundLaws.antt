-- The contract of a bound call, told in numbers. Assumes nothing.
use Rattle.std.specs.Prelude.{◌≡◌, refl, ◌≤◌}
use Rattle.std.proofs.Common.{◌∙◌, ap, subst, arith}
use Rattle.model.specs.Sheet.{Sheet}
use Rattle.model.specs.Refusal.{of_reply, number_of, returned_of}
use Rattle.std.specs.Prelude.{Ok, Err}
use Rattle.model.specs.Replies.{BoundReply}
use Rattle.bound.specs.BoundCall.{BoundCall}
use Rattle.bound.proofs.BoundCallLaws.{given_so}
use Rattle.exported.proofs.ExportedLaws.{numbered}
use Rattle.exported.specs.ExportedBound.{bound_of, ExportedBound}
use Rattle.exported.specs.declared.bounding.Bound.{Bound}

-- the cause of a reply
bound_cause : (x : BoundReply) → (bound_of x).cause ≡ record { number = number_of (of_reply x); returned = returned_of (of_reply x) }
bound_cause (Ok most) = refl
bound_cause (Err r) = refl

-- a reply without a number gives a figure, and another gives none
figure_given : (x : BoundReply) → number_of (of_reply x) ≡ 0 → x ≡ Ok (bound_of x).most
figure_given (Ok most) e = refl
figure_given (Err r) e = absurd (omega (arith, numbered r))

none_given : (x : BoundReply) → 1 ≤ number_of (of_reply x) → (bound_of x).most ≡ 0
none_given (Ok most) l = absurd (omega arith)
none_given (Err r) l = refl

-- WHAT A BOUND CALL OF THE LIBRARY PROMISES, THE EXPORTED ONE DOES
pub exported_bound : (s : Sheet) (x : BoundReply) (r : Bound) → BoundCall s x → r ≡ bound_of x → ExportedBound s r
exported_bound s x r call e =
    let cause = ap (λ (p : Bound). p.cause) e ∙ bound_cause x in
    let most = ap (λ (p : Bound). p.most) e in
    record {
      equal = e ∙ ap bound_of call.equal;
      call = subst (BoundCall s) call.equal call;
      accepts = λ a. rw (cause, call.figure a) refl;
      figure = λ u. most ∙ (given_so s x call.equal _ (figure_given x (rw cause at u))).1;
      no_more_rounds = λ u. rw most (call.no_more_rounds _ (figure_given x (rw cause at u)));
      ends = λ u. rw most (call.ends _ (figure_given x (rw cause at u)));
      no_more_pairs = λ u. rw most (call.no_more_pairs _ (figure_given x (rw cause at u)));
      room = λ u. rw most (call.room _ (figure_given x (rw cause at u)));
      refuses = rw cause call.refuses;
      returns_zero = rw cause call.returns_zero;
      beside = λ l. most ∙ none_given x (rw cause at l);
      seven = rw cause call.seven;
    }
