-- The contract of checking, told in numbers. Assumes nothing.
use Rattle.std.specs.Prelude.{◌≡◌, refl, ◌⊎◌, List, ℕ, ℤ}
use Rattle.std.proofs.Common.{◌∙◌, ap, subst, inl, inr, arith}
use Rattle.model.specs.Sheet.{Sheet}
use Rattle.model.specs.Refusal.{of_reply, number_of, returned_of}
use Rattle.model.specs.declared.Row.{Row}
use Rattle.std.specs.Prelude.{Ok, Err}
use Rattle.model.specs.Replies.{CheckReply, checked_as}
use Rattle.checker.specs.Checking.{SaysYes, CheckingCall}
use Rattle.exported.proofs.ExportedLaws.{numbered}
use Rattle.checked.specs.ExportedChecking.{check_of, pair_checked, ExportedCheck}
use Rattle.checked.specs.declared.Check.{Check}

-- the cause of a reply
check_cause : (x : CheckReply) → (check_of x).cause ≡ record { number = number_of (of_reply x); returned = returned_of (of_reply x) }
check_cause (Ok v) = refl
check_cause (Err r) = refl

-- a reply without a number says yes, with the numbers told
told_is : (x : CheckReply) → number_of (of_reply x) ≡ 0
    → x ≡ checked_as (check_of x).last (check_of x).worst (check_of x).listed (check_of x).pairs (check_of x).rounds
told_is (Ok v) e = refl
told_is (Err r) e = absurd (omega (arith, numbered r))

abbrev yes_told : (x : CheckReply) → number_of (of_reply x) ≡ 0 → SaysYes x
yes_told x e =
    record { pair = pair_checked (check_of x); listed = (check_of x).listed; pairs = (check_of x).pairs; rounds = (check_of x).rounds; is = told_is x e }

-- and one that says yes has no number
yes_number : (x : CheckReply) → SaysYes x → number_of (of_reply x) ≡ 0
yes_number x y = ap (λ (z : CheckReply). number_of (of_reply z)) y.is

told_number : (x : CheckReply) → SaysYes x ⊎ ((number_of (of_reply x) ≡ 12) ⊎ (number_of (of_reply x) ≡ 13))
    → (number_of (of_reply x) ≡ 0) ⊎ ((number_of (of_reply x) ≡ 12) ⊎ (number_of (of_reply x) ≡ 13))
told_number x (inl y) = inl (yes_number x y)
told_number x (inr n) = inr n

-- what a checking call of the library promises, the exported one does
module _ (s : Sheet) (departure : List ℕ) (rows : List Row) (left found : List ℤ) where
  pub exported_check : (x : CheckReply) (r : Check) → CheckingCall s departure rows x left found → r ≡ check_of x → ExportedCheck s departure rows r left found
  exported_check x r call e =
      let cause = ap (λ (p : Check). p.cause) e ∙ check_cause x in
      let replied = call.equal.replied in
      let yes : r.cause.number ≡ 0 → SaysYes x = λ u. yes_told x (rw cause at u) in
      record {
        equal = e ∙ ap check_of replied;
        call = subst (λ (y : CheckReply). CheckingCall s departure rows y left found) replied call;
        schedule = (λ u. call.schedule.0 (yes u), λ h. rw cause (yes_number x (call.schedule.1 h)));
        pair = λ u. rw e (call.pair (yes u));
        listed = λ u. rw e (call.listed (yes u));
        unbeaten = λ u. rw e (call.unbeaten (yes u));
        front = λ u. rw e (call.front (yes u));
        twelve = rw cause call.twelve;
        thirteen = rw cause call.thirteen;
        answered = λ a room. rw cause (told_number x (call.answered a room));
        seven = rw cause call.seven;
        returns_zero = rw cause call.returns_zero;
        as_found = rw cause call.as_found;
      }
