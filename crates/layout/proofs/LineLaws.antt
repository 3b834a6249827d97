-- Laws of the lines of a plan: one more line, of the next numbers of its area. Assumes nothing.
use Rattle.std.specs.Prelude.{◌≡◌, List, ◌++◌, ℕ, ◌+◌, ◌*◌, ◌<◌, ℤ, pos, length, get_or, drop}
use Rattle.std.proofs.Common.{add-one, ap, sym, ◌∙◌, drop-drop}
use Rattle.std.proofs.Math.Seq.{drop-append_seam}
use Rattle.std.proofs.lemmas.List.{get_or-drop, get_or_append_left}
use Rattle.model.specs.Limits.{numbers_a_pair, numbers_a_train}
use Rattle.layout.specs.Lines.{pair_line, time_line, order_line, pair_lines, time_lines, order_lines}

pub pair_next : (pairs : List ℤ) (i : ℕ) →
    pair_lines pairs (i + 1) ≡ pair_lines pairs i ++ pair_line (get_or pairs (numbers_a_pair * i) (pos 0)) (get_or pairs (numbers_a_pair * i + 1) (pos 0))
unfolding pair_lines
pair_next pairs i = rw (add-one i)

pub time_next : (times : List ℕ) (i : ℕ) →
    time_lines times (i + 1)
    ≡ time_lines times i
    ++ time_line (i + 1) (get_or times (numbers_a_train * i) 0) (get_or times (numbers_a_train * i + 1) 0) (get_or times (numbers_a_train * i + 2) 0)
unfolding time_lines
time_next times i = rw (add-one i)

pub order_next : (name : ℕ → List ℕ) (trains : List ℕ) (i : ℕ) →
    order_lines name trains (i + 1) ≡ order_lines name trains i ++ order_line (name (i + 1)) (get_or trains i 0)
unfolding order_lines
order_next name trains i = rw (add-one i)

-- ---- the next numbers x of an area xs, of which k have been read

module _ {A : Type 0} (k : ℕ) (xs x rest : List A) (e : drop k xs ≡ x ++ rest) where
  pub rest_left : (m : ℕ) → k + length x ≡ m → rest ≡ drop m xs
  rest_left m h =
      sym (drop-append_seam x rest) ∙ ap (drop (length x)) (sym e) ∙ drop-drop (length x) k xs ∙ ap (λ (n : ℕ). drop n xs) h

  pub number_read : (j m : ℕ) (d : A) → k + j ≡ m → j < length x → get_or x j d ≡ get_or xs m d
  number_read j m d h l =
      sym (get_or_append_left x rest d j l) ∙ ap (λ (l : List A). get_or l j d) (sym e) ∙ get_or-drop k xs j d ∙ ap (λ (n : ℕ). get_or xs n d) h
