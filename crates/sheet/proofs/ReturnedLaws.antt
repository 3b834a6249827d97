-- A REFUSED TEXT IS REFUSED WITH ONE OF THE NUMBERS 1 TO 7; one that returns a line returns one of the text's, and 7 means too few places. Assumes nothing.
use Rattle.std.specs.Prelude.{◌≡◌, Bool, true, false, List, leb, ltb}
use Rattle.std.proofs.Math.Path.{refl}
use Rattle.std.proofs.Common.{sym, ap, subst, ◌∙◌}
use Prim.Native.Nat.{ℕ, zero, suc, ◌+◌, ◌≤◌}
use native.Mathlib.Omega.{arith}
use Rattle.std.proofs.Math.ListN.{length}
use Rattle.numbers.specs.Counting.{nth}
use Rattle.numbers.specs.DecidesLaws.{decides_le, test_fails}
use Rattle.model.specs.Limits.{Inside, ◌–◌}
use Rattle.model.specs.Sheet.{places}
use Rattle.model.specs.Refusal.{number, returned}
use Rattle.model.specs.Admission.{passed}
use Rattle.model.specs.declared.Refusal.{Refusal}
use Rattle.model.specs.declared.Refusal.TheVariants.{Malformed, OutOfRange, KindTooEarly, TooMany, KindMissing, OutOfOrder, TooFewPlaces}
use Rattle.std.specs.Prelude.{Result, Ok, Err}
use Rattle.model.specs.Replies.{Admission}
use Rattle.model.specs.declared.Form.{Form}
use Rattle.lines.specs.Lines.{line_at}
use Rattle.fields.proofs.FieldLaws.{by_test}
use Rattle.lines.proofs.LineLaws.{Sound, line_sound}
use Rattle.rows.specs.Faults.{first_fault, last_fault}
use Rattle.gather.specs.Tests.{kind_tests, of_form, line_fault, complete, end_fault}
use Rattle.gather.specs.SheetLines.{no_lines, with_line}
use Rattle.sheet.specs.Reading.{SheetText, on_line, on_admission, read_lines, read_from, all_lines, lines_in}
use Rattle.sheet.specs.ReadingCall.{FewPlaces, TextRefusal, tells_line}
use Rattle.lines.specs.declared.Line.{Line}
use Rattle.rows.specs.declared.LineTests.{LineTests}
use Rattle.lines.specs.declared.LineAt.{LineAt}
use Rattle.gather.specs.declared.SheetLines.{SheetLines}

true_is_not_false : {A : Type 0} → ◌≡◌ {A = Bool} true false → A
true_is_not_false e = let z : ◌≡◌ {A = ℕ} 0 1 = cc in absurd (omega arith)

-- what is said of the answer to a text
record Tells {A : Type 0} (text : List ℕ) (a : Result A Refusal) : Type 0 where
  pub refusal : (r : Refusal) → a ≡ Err r → TextRefusal text r

module _ (text : List ℕ) where
  granted_tells : {A : Type 0} (a : A) → Tells {A = A} text (Ok a)
  granted_tells a = record { refusal = λ r e. absurd cc }

  refusal_tells : {A : Type 0} (r : Refusal) → TextRefusal text r → Tells {A = A} text (Err r)
  refusal_tells r t = record { refusal = λ q e. let k : r ≡ q = cc in subst (TextRefusal text) k t }

  test_tells : (b : Bool) (r : Refusal) (next : Admission) → (b ≡ false → TextRefusal text r) → Tells text next → Tells text (passed b r next)
  test_tells true r next t h = h
  test_tells false r next t h = refusal_tells r (t refl)

  -- a refusal with a line, and one without
  of_line : (r : Refusal) → Inside (1 – 7) (number r) → tells_line (number r) ≡ true → Inside (1 – length text) (returned r) → TextRefusal text r
  of_line r n t l =
      record { numbered = n; line = λ e. l; no_line = λ e. true_is_not_false (sym t ∙ e); seven = λ e. true_is_not_false (sym t ∙ ap tells_line e) }

  of_text : (r : Refusal) → Inside (1 – 7) (number r) → tells_line (number r) ≡ false → returned r ≡ 0 → (number r ≡ 7 → FewPlaces (lines_in text))
      → TextRefusal text r
  of_text r n t l few = record { numbered = n; line = λ e. true_is_not_false (sym e ∙ t); no_line = λ e. l; seven = few }

  module _ (line : ℕ) (k : Inside (1 – length text) line) where
    fault_tells : (t : LineTests) → Tells text (first_fault line t)
    unfolding first_fault
    fault_tells t =
        test_tells t.late_enough _ _ (λ e. of_line (KindTooEarly line) (omega arith, omega arith) refl k)
        (test_tells t.few _ _ (λ e. of_line (TooMany line) (omega arith, omega arith) refl k)
        (test_tells t.in_range _ _ (λ e. of_line (OutOfRange line) (omega arith, omega arith) refl k)
        (test_tells t.in_order _ _ (λ e. of_line (OutOfOrder line) (omega arith, omega arith) refl k) (granted_tells tt))))

    malformed_tells : TextRefusal text (Malformed line)
    malformed_tells = of_line (Malformed line) (omega arith, omega arith) refl k

    line_tells : (form : Form) (s : SheetLines) (l : Line) → Tells text (line_fault form line s l)
    unfolding line_fault
    line_tells form s l = test_tells (of_form form l) (Malformed line) (first_fault line (kind_tests s l)) (λ e. malformed_tells) (fault_tells (kind_tests s l))

  after_admission : (a : Admission) (t : SheetText) → Tells text a → Tells text t → Tells text (on_admission a t)
  after_admission (Ok _) t h k = k
  after_admission (Err r) t h k = refusal_tells r (h.refusal r refl)

  module _ (form : Form) where
    -- after the last line of the text
    module _ (s : SheetLines) (all : lines_in text ≡ s) where
      end_tells : Tells text (end_fault form s)
      unfolding end_fault last_fault
      end_tells =
          let held = places (nth s.trains.capacity) s.trains.count in
          test_tells (complete form s) _ _ (λ e. of_text KindMissing (omega arith, omega arith) refl refl (λ u. absurd (omega arith)))
          (test_tells (leb s.orders.count held) _ _
          (λ e. of_text TooFewPlaces (omega arith, omega arith) refl refl
          (λ u. rw all (let no = test_fails (decides_le s.orders.count held) e in omega arith))) (granted_tells tt))

      ended_tells : Tells text (on_admission (end_fault form s) (Ok s))
      ended_tells = after_admission (end_fault form s) (Ok s) end_tells (granted_tells s)

    after_line : (p line : ℕ) → Inside (1 – length text) line → (x : Result LineAt Refusal) → Sound text p line x → (rest : Line → ℕ → SheetText)
        → ((l : LineAt) → x ≡ Ok l → Tells text (rest l.line l.next)) → Tells text (on_line x rest)
    after_line p line k (Ok l) h rest f = f l refl
    after_line p line k (Err r) h rest f = refusal_tells r (rw h (malformed_tells line k))

    lines_tell : (n p line : ℕ) (s : SheetLines) → 1 ≤ line → line + n ≤ length text + 1 → lines_in text ≡ all_lines n text p line s
        → Tells text (read_lines form n text p line s)
    unfolding read_lines all_lines
    lines_tell zero p line s l k all = ended_tells s all
    lines_tell (suc n) p line s l k all =
        let here : Inside (1 – length text) line = (l, omega arith) in
        by_test (λ (t : SheetText). Tells text t) (ltb p (length text))
        (λ e. after_line p line here (line_at text p line) (line_sound text p line) _ (λ l u.
        after_admission (line_fault form line s l.line) _ (line_tells line here form s l.line)
        (lines_tell n l.next (line + 1) (with_line s l.line) (omega arith) (omega arith) (rw (e, u) at all))))
        (λ e. ended_tells s (rw e at all))

-- there are no more lines than bytes
pub text_refusal : (form : Form) (text : List ℕ) (r : Refusal) → read_from form text 0 ≡ Err r → TextRefusal text r
unfolding read_from lines_in
text_refusal form text r e = (lines_tell text form (length text) 0 1 no_lines (omega arith) (omega arith) refl).refusal r e

-- so what is returned is no more than the text's bytes
pub returned_bound : (text : List ℕ) (r : Refusal) → TextRefusal text r → returned r ≤ length text
returned_bound text r t = go (tells_line (number r)) refl
  where
    go : (b : Bool) → tells_line (number r) ≡ b → returned r ≤ length text
    go true e = (t.line e).1
    go false e = omega (arith, t.no_line e)
