-- How reading goes on, and what a whole reading keeps. Assumes nothing.
use Rattle.std.specs.Prelude.{◌≡◌, List, ltb}
use Rattle.std.proofs.Math.Path.{refl, ap}
use Rattle.std.proofs.Common.{subst, ◌∙◌, lt-ltb, le-ltb}
use Rattle.std.proofs.Math.Bool.{cond}
use Prim.Native.Nat.{ℕ, zero, suc, ◌+◌, ◌-◌, ◌≤◌, ◌<◌}
use native.Mathlib.Omega.{arith}
use Rattle.std.proofs.Math.ListN.{length}
use Rattle.model.specs.declared.Refusal.{Refusal}
use Rattle.lines.specs.Lines.{line_at}
use Rattle.fields.proofs.FieldLaws.{by_test}
use Rattle.lines.proofs.LineLaws.{Sound, line_sound}
use Rattle.gather.specs.Tests.{line_fault, end_fault}
use Rattle.gather.specs.SheetLines.{no_lines, with_line}
use Rattle.sheet.specs.Reading.{SheetText, on_line, on_admission, read_lines, read_from}
use Rattle.model.specs.declared.Form.{Form}
use Rattle.lines.specs.declared.Line.{Line}
use Rattle.lines.specs.declared.LineAt.{LineAt}
use Rattle.std.specs.Prelude.{Result, Ok, Err}
use Rattle.model.specs.Replies.{Admission}
use Rattle.gather.specs.declared.SheetLines.{SheetLines}

module _ (form : Form) where
  -- where lines are left there is a next one
  pub read_next : (n : ℕ) (text : List ℕ) (p line : ℕ) (s : SheetLines) → p < length text → 0 < n
      → read_lines form n text p line s
      ≡ on_line (line_at text p line) (λ l next. on_admission (line_fault form line s l) (read_lines form (n - 1) text next (line + 1) (with_line s l)))
  unfolding read_lines
  read_next zero text p line s h k = absurd (omega arith)
  read_next (suc n) text p line s h k = let e : suc n - 1 ≡ n = omega arith in rw (lt-ltb p (length text) h, e)

  pub read_over : (n : ℕ) (text : List ℕ) (p line : ℕ) (s : SheetLines) → length text ≤ p
      → read_lines form n text p line s ≡ on_admission (end_fault form s) (Ok s)
  unfolding read_lines
  read_over zero text p line s h = refl
  read_over (suc n) text p line s h = rw (le-ltb p (length text) h)

  -- ---- a walk from line to line: the lines from position p on give what the whole text gives

  pub record Rest (whole : SheetText) (text : List ℕ) (p line : ℕ) (s : SheetLines) : Type 0 where
    pub first : 1 ≤ line
    pub passed : line ≤ p + 1
    pub same : whole ≡ read_lines form (length text - (line - 1)) text p line s

  pub rest_starts : (text : List ℕ) (p : ℕ) → Rest (read_from form text p) text p 1 no_lines
  unfolding read_from
  rest_starts text p =
      let n : length text ≡ length text - 0 = omega arith in
      record { first = omega arith; passed = omega arith; same = ap (λ (k : ℕ). read_lines form k text p 1 no_lines) n }

  module _ {whole : SheetText} {text : List ℕ} {p line : ℕ} {s : SheetLines} (r : Rest whole text p line s) where
    pub rest_ends : length text ≤ p → whole ≡ on_admission (end_fault form s) (Ok s)
    rest_ends h = r.same ∙ read_over (length text - (line - 1)) text p line s h

    module _ (h : p < length text) where
      rest_next : whole
          ≡ on_line (line_at text p line) (λ l next. on_admission (line_fault form line s l) (read_lines form (length text - (line - 1) - 1) text next
          (line + 1) (with_line s l)))
      rest_next = r.same ∙ read_next (length text - (line - 1)) text p line s h (omega (arith, r.first, r.passed))

      pub rest_malformed : (f : Refusal) → line_at text p line ≡ Err f → whole ≡ Err f
      rest_malformed f e = rest_next ∙ rw e

      module _ (l : LineAt) (e : line_at text p line ≡ Ok l) where
        pub rest_faulty : (f : Refusal) → line_fault form line s l.line ≡ Err f → whole ≡ Err f
        rest_faulty f k = rest_next ∙ rw (e, k)

        -- a line that is read ends later
        pub next_later : p < l.next
        next_later = (subst (Sound text p line) e (line_sound text p line)).0

        pub rest_goes_on : line_fault form line s l.line ≡ Ok tt → Rest whole text l.next (line + 1) (with_line s l.line)
        rest_goes_on k =
            let n : length text - (line - 1) - 1 ≡ length text - (line + 1 - 1) = omega (arith, r.first) in
            record {
              first = omega arith;
              passed = omega (arith, r.passed, next_later);
              same = rest_next ∙ rw (e, k) (ap (λ (k : ℕ). read_lines form k text l.next (line + 1) (with_line s l.line)) n);
            }

  -- ---- the bound cuts nothing off: where it is at least the bytes that are left, one more changes nothing

  module _ (text : List ℕ) where
    same_turn : (n p line : ℕ) (s : SheetLines) (x : Result LineAt Refusal) → line_at text p line ≡ x
        → ((l : Line) (next : ℕ) → p < next → read_lines form (suc n) text next (line + 1) (with_line s l) ≡ read_lines form n text next (line + 1)
        (with_line s l))
        → on_line x (λ l next. on_admission (line_fault form line s l) (read_lines form (suc n) text next (line + 1) (with_line s l)))
        ≡ on_line x (λ l next. on_admission (line_fault form line s l) (read_lines form n text next (line + 1) (with_line s l)))
    same_turn n p line s (Ok l) e k =
        ap (on_admission (line_fault form line s l.line)) (k l.line l.next (subst (Sound text p line) e (line_sound text p line)).0)
    same_turn n p line s (Err r) e k = refl

    pub one_more_bound : (n p line : ℕ) (s : SheetLines) → length text ≤ p + n → read_lines form (suc n) text p line s ≡ read_lines form n text p line s
    unfolding read_lines
    one_more_bound zero p line s h = rw (le-ltb p (length text) (omega arith))
    one_more_bound (suc n) p line s h =
        ap (λ (t : SheetText). cond (ltb p (length text)) t (on_admission (end_fault form s) (Ok s)))
        (same_turn n p line s (line_at text p line) refl (λ l next k. one_more_bound n next (line + 1) (with_line s l) (omega arith)))

  -- ---- what a whole reading keeps: the lines of a text that is read, which has no fault at its end
  pub record Whole (P : SheetLines → Type 0) (t : SheetText) : Type 0 where
    pub lines : (s : SheetLines) → t ≡ Ok s → P s
    pub ended : (s : SheetLines) → t ≡ Ok s → end_fault form s ≡ Ok tt

  module _ (P : SheetLines → Type 0) (text : List ℕ) (none : P no_lines)
      (more : (p line : ℕ) (s : SheetLines) (l : LineAt) → line_at text p line ≡ Ok l → line_fault form line s l.line ≡ Ok tt
      → P s → P (with_line s l.line)) where
    of_refused : (r : Refusal) → Whole P (Err r)
    of_refused r = record { lines = λ s e. absurd cc; ended = λ s e. absurd cc }

    after : (a : Admission) (t : SheetText) → (a ≡ Ok tt → Whole P t) → Whole P (on_admission a t)
    after (Ok _) t k = k refl
    after (Err r) t k = of_refused r

    at_end : (s : SheetLines) → P s → Whole P (on_admission (end_fault form s) (Ok s))
    at_end s h =
        after (end_fault form s) (Ok s)
        (λ e. record {
          lines = λ t f. let k : s ≡ t = cc in subst P k h;
          ended = λ t f. let k : s ≡ t = cc in subst (λ (u : SheetLines). end_fault form u ≡ Ok tt) k e;
        })

    turn : (x : Result LineAt Refusal) (rest : Line → ℕ → SheetText) → ((l : LineAt) → x ≡ Ok l → Whole P (rest l.line l.next))
        → Whole P (on_line x rest)
    turn (Ok l) rest k = k l refl
    turn (Err r) rest k = of_refused r

    read_keeps : (n p line : ℕ) (s : SheetLines) → P s → Whole P (read_lines form n text p line s)
    unfolding read_lines
    read_keeps zero p line s h = at_end s h
    read_keeps (suc n) p line s h =
        by_test (Whole P) (ltb p (length text))
        (λ t. turn (line_at text p line) _ (λ l e. after (line_fault form line s l.line) _ (λ f. read_keeps n l.next (line + 1) (with_line s l.line)
        (more p line s l e f h))))
        (λ t. at_end s h)

    -- what each line without a fault keeps, the whole text keeps
    pub reading_keeps : (p : ℕ) → Whole P (read_from form text p)
    unfolding read_from
    reading_keeps p = read_keeps (length text) p 1 no_lines none
