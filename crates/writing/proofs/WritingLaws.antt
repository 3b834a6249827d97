-- Laws of the pass over a buffer: what is put on a page joins, a pass that is not writing finds the length, and one that is writing puts the bytes.
use Rattle.std.specs.Prelude.{Bool, true, false, cond, Option, Some, None, ◌≡◌, refl, List, [], ◌∷◌, ◌++◌, ℕ, suc, ◌+◌, ◌≤◌, ◌<◌, ltb, leb, length, set, drop}
use Rattle.std.proofs.Common.{ap, sym, ◌∙◌, add-one, arith, length-set, lt-ltb, le-ltb, leb-true, leb-false, ltb-true, ltb-false}
use Rattle.std.proofs.lemmas.List.Edits.{sets, sets-eq}
use Rattle.std.specs.Borrow.{MutBor}
use Rattle.numbers.specs.Over.{over}
use Rattle.writing.specs.declared.Page.{Page}
use Rattle.writing.specs.Writing.{State, state, put_byte, pass, opened, Puts, Prints}

pub pass_none : (w : Bool) (s : State) → pass w [] s ≡ s
unfolding pass
pass_none w s = refl

pub pass_append : (w : Bool) (xs ys : List ℕ) (s : State) → pass w (xs ++ ys) s ≡ pass w ys (pass w xs s)
unfolding pass
pass_append w [] ys s = refl
pass_append w (x ∷ xs) ys s = pass_append w xs ys (put_byte w x s.place s.out)

-- ---- on a page

pub puts_none : (p : Page) → Puts [] p p
unfolding pass
puts_none p = record { passed = refl; writing = refl; buffer = refl }

pub puts_then : (xs ys : List ℕ) {a b c : Page} → Puts xs a b → Puts ys b c → Puts (xs ++ ys) a c
puts_then xs ys {a} {b} {c} p q =
    record {
      passed = rw (pass_append a.writing xs ys) (rw (← p.passed, ← p.writing) q.passed);
      writing = q.writing ∙ p.writing;
      buffer = q.buffer ∙ p.buffer;
    }

pub puts_cons : (b : ℕ) (bs : List ℕ) (p q r : Page) → Puts (b ∷ []) p q → Puts bs q r → Puts (b ∷ bs) p r
puts_cons b bs p q r h g = puts_then (b ∷ []) bs h g

-- the same bytes, written another way
pub puts_same : {xs ys : List ℕ} {a b : Page} → xs ≡ ys → Puts xs a b → Puts ys a b
puts_same e p = rw (← e) p

-- ---- one byte

pub put_short : (w : Bool) (b a : ℕ) (o : List ℕ) → length o ≤ a → pass w (b ∷ []) (state (Some a) o) ≡ state None o
unfolding pass put_byte
put_short w b a o h = rw (le-ltb a (length o) h)

-- ---- a whole pass

stays_none : (w : Bool) (bs : List ℕ) (o : List ℕ) → pass w bs (state None o) ≡ state None o
unfolding pass put_byte
stays_none w [] o = refl
stays_none w (b ∷ bs) o = stays_none w bs o

-- past the first byte, where it fits
next : (w : Bool) (b : ℕ) (bs : List ℕ) (a : ℕ) (o : List ℕ) → a < length o →
    pass w (b ∷ bs) (state (Some a) o) ≡ pass w bs (state (Some (suc a)) (cond w (set o a b) o))
unfolding pass put_byte
next w b bs a o h = rw (lt-ltb a (length o) h, add-one a)

counted : (bs : List ℕ) (a : ℕ) (o : List ℕ) → a + length bs ≤ length o → pass false bs (state (Some a) o) ≡ state (Some (a + length bs)) o
counted [] a o h = let e : a ≡ a + 0 = omega arith in pass_none false (state (Some a) o) ∙ ap (λ (n : ℕ). state (Some n) o) e
counted (b ∷ bs) a o h =
    let e : suc a + length bs ≡ a + suc (length bs) = omega arith in
    next false b bs a o (omega arith) ∙ counted bs (suc a) o (omega arith) ∙ ap (λ (n : ℕ). state (Some n) o) e

short : (bs : List ℕ) (a : ℕ) (o : List ℕ) → a ≤ length o → length o < a + length bs → pass false bs (state (Some a) o) ≡ state None o
short [] a o p h = absurd (omega arith)
short (b ∷ bs) a o p h = go (ltb a (length o)) refl (λ x. short bs (suc a) o x (omega arith))
  where
    go : (t : Bool) → ltb a (length o) ≡ t → (a < length o → pass false bs (state (Some (suc a)) o) ≡ state None o)
        → pass false (b ∷ bs) (state (Some a) o) ≡ state None o
    go true e rest = let x = ltb-true a (length o) e in next false b bs a o x ∙ rest x
    go false e rest =
        pass_append false (b ∷ []) bs (state (Some a) o)
        ∙ ap (pass false bs) (put_short false b a o (ltb-false a (length o) e))
        ∙ stays_none false bs o

written : (bs : List ℕ) (a : ℕ) (o : List ℕ) → a + length bs ≤ length o → pass true bs (state (Some a) o) ≡ state (Some (a + length bs)) (sets o a bs)
written [] a o h = let e : a ≡ a + 0 = omega arith in pass_none true (state (Some a) o) ∙ ap (λ (n : ℕ). state (Some n) o) e
written (b ∷ bs) a o h =
    let e : suc a + length bs ≡ a + suc (length bs) = omega arith in
    let fits : suc a + length bs ≤ length (set o a b) = simp length-set (omega arith) in
    next true b bs a o (omega arith) ∙ written bs (suc a) (set o a b) fits ∙ ap (λ (n : ℕ). state (Some n) (sets (set o a b) (suc a) bs)) e

-- ---- a printing call: one pass that counts, and one that writes

module _ (bs found : List ℕ) where
  all : 0 + length bs ≡ length bs
  all = omega arith

  counted_all : length bs ≤ length found → pass false bs (state (Some 0) found) ≡ state (Some (length bs)) found
  counted_all h = counted bs 0 found (omega arith) ∙ ap (λ (n : ℕ). state (Some n) found) all

  short_all : length found < length bs → pass false bs (state (Some 0) found) ≡ state None found
  short_all h = short bs 0 found (omega arith) (omega arith)

  written_all : length bs ≤ length found → pass true bs (state (Some 0) found) ≡ state (Some (length bs)) (over bs found)
  written_all h =
      written bs 0 found (omega arith)
      ∙ ap (λ (n : ℕ). state (Some n) (sets found 0 bs)) all
      ∙ ap (state (Some (length bs))) (sets-eq bs found 0 (omega arith) ∙ ap (λ (n : ℕ). bs ++ drop n found) all)

module _ (bs found : List ℕ) {p : Option ℕ} {o : List ℕ} (e : state p o ≡ pass false bs (state (Some 0) found)) where
  -- the counting pass came to a place: the bytes fit, it is their number, and the buffer is as found
  fits_at : (n : ℕ) → p ≡ Some n → (t : Bool) → leb (length bs) (length found) ≡ t → (t ≡ true) × (n ≡ length bs) × (o ≡ found)
  fits_at n h true f =
      let x : state p o ≡ state (Some (length bs)) found = e ∙ counted_all bs found (leb-true (length bs) (length found) f) in
      let y : Some n ≡ Some (length bs) = sym h ∙ ap (λ (s : State). s.place) x in
      (refl, (cc), ap (λ (s : State). s.out) x)
  fits_at n h false f =
      let x : state p o ≡ state None found = e ∙ short_all bs found (leb-false (length bs) (length found) f) in
      let y : Some n ≡ None = sym h ∙ ap (λ (s : State). s.place) x in
      let z : ◌≡◌ {A = ℕ} 0 1 = cc in
      absurd (omega arith)

  pub prints_short : p ≡ None → Prints bs found None o
  prints_short h = go (leb (length bs) (length found)) refl
    where
      go : (t : Bool) → leb (length bs) (length found) ≡ t → Prints bs found None o
      go true f =
          let x : state p o ≡ state (Some (length bs)) found = e ∙ counted_all bs found (leb-true (length bs) (length found) f) in
          let y : None ≡ Some (length bs) = sym h ∙ ap (λ (s : State). s.place) x in
          let z : ◌≡◌ {A = ℕ} 0 1 = cc in
          absurd (omega arith)
      go false f =
          let x : state p o ≡ state None found = e ∙ short_all bs found (leb-false (length bs) (length found) f) in
          record { answer = rw f; out = rw f (ap (λ (s : State). s.out) x) }

  -- the writing pass answers its place, which is the one that was counted
  prints_put : (n : ℕ) → p ≡ Some n → {r : Option ℕ} {after : List ℕ} → state r after ≡ pass true bs (state (Some 0) o) → Prints bs found r after
  prints_put n h {r} {after} g =
      let k = fits_at n h (leb (length bs) (length found)) refl in
      let x : length bs ≤ length found = leb-true (length bs) (length found) k.0 in
      let y : state r after ≡ state (Some (length bs)) (over bs found) = g ∙ rw k.2 (written_all bs found x) in
      record { answer = rw k.0 (ap (λ (s : State). s.place) y); out = rw k.0 (ap (λ (s : State). s.out) y) }

  pub prints_bytes : (n : ℕ) → p ≡ Some n → {r : Option ℕ} {after : List ℕ} → state r after ≡ pass true bs (state (Some 0) o)
      → Prints bs found (Some n) after
  prints_bytes n h {r} {after} g =
      let k = fits_at n h (leb (length bs) (length found)) refl in
      record { answer = rw k.0 (ap Some k.1); out = (prints_put n h g).out }

-- the page of the first pass is left with b, and the buffer x of both is the buffer of the second one, which is left with d
module _ {bs : List ℕ} {o : MutBor (List ℕ)} {a b : Page} (counting : a ≡ opened o false) (count : Puts bs a b) {x : List ℕ} (left : x ≡ b.out.now) where
  passed_first : state b.place x ≡ pass false bs (state (Some 0) o.now)
  passed_first = rw left (rw counting at count.passed)

  pub printed_short : b.place ≡ None → Prints bs o.now None x
  printed_short h = prints_short bs o.now passed_first h

  pub printed_bytes : (n : ℕ) → b.place ≡ Some n → {again : MutBor (List ℕ)} {c d : Page} → c ≡ opened again true → again.now ≡ x → Puts bs c d
      → {y : List ℕ} → y ≡ d.out.now → Prints bs o.now d.place y
  printed_bytes n h {again} writing same put e =
      prints_put bs o.now passed_first n h (rw (e, ← same) (rw writing at put.passed))
