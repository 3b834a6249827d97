-- WHAT PRINTING INTO A LENT BUFFER DOES: the bytes are put one by one, each at a place; a byte past the end is not put, and there is no place
-- after it. The same pass only counts where it is not writing.
use Rattle.std.specs.Prelude.{◌≡◌, Bool, cond, Option, Some, None, List, [], ◌∷◌, ℕ, ◌+◌, ltb, leb, length, set}
use Rattle.std.specs.Borrow.{MutBor}
use Rattle.numbers.specs.Over.{over}
use Rattle.writing.specs.declared.Page.{Page}

-- where the next byte goes, and the buffer
pub record State : Type 0 where
  pub place : Option ℕ
  pub out : List ℕ

abbrev pub state : Option ℕ → List ℕ → State
state p o = record { place = p; out = o }

unfoldable pub put_byte : (writing : Bool) → ℕ → Option ℕ → List ℕ → State
put_byte w b None o = state None o
put_byte w b (Some a) o = cond (ltb a (length o)) (state (Some (a + 1)) (cond w (set o a b) o)) (state None o)

unfoldable pub pass : (writing : Bool) → List ℕ → State → State
unfolding put_byte
pass w [] s = s
pass w (b ∷ bs) s = pass w bs (put_byte w b s.place s.out)

-- a page at the front of a buffer
abbrev pub opened : MutBor (List ℕ) → (writing : Bool) → Page
opened o w = record { out = o; place = Some 0; writing = w }

-- bytes put on a page, whose buffer it keeps
pub record Puts (bytes : List ℕ) (found after : Page) : Type 0 where
  pub passed : state after.place after.out.now ≡ pass found.writing bytes (state found.place found.out.now)
  pub writing : after.writing ≡ found.writing
  pub buffer : after.out.ghost_name ≡ found.out.ghost_name

-- what a printing call answers and leaves in the buffer: the bytes at its front if they fit, and otherwise the buffer as found
pub record Prints (bytes found : List ℕ) (r : Option ℕ) (after : List ℕ) : Type 0 where
  pub answer : r ≡ cond (leb (length bytes) (length found)) (Some (length bytes)) None
  pub out : after ≡ cond (leb (length bytes) (length found)) (over bytes found) found
