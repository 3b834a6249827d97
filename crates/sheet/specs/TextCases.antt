-- TEXTS TO TRY THE DEFINITIONS ON: document 01's printed sheet a, the timetable of case h, and texts with the refusal that each must give.
use Rattle.std.specs.Prelude.{List, [], ◌∷◌, ℕ}
use Prim.Native.String as S
use Rattle.fields.specs.Texts.{bytes}
use Rattle.model.specs.declared.Refusal.{Refusal}
use Rattle.model.specs.declared.Refusal.TheVariants.{Malformed, OutOfRange, KindTooEarly, TooMany, KindMissing, OutOfOrder, TooFewPlaces}
use Rattle.model.specs.declared.Form.{Form}
use Rattle.model.specs.declared.Form.TheVariants.{Windows, Timetable}

unfoldable pub text_a : List ℕ
unfolding bytes
text_a = bytes "G,60\nW,0,100\nW,150,200\nT,1,30\nT,2,20\nO,A,0,60,1\nO,B,40,60,3\nO,C,90,200,1\n"

unfoldable pub text_h : List ℕ
unfolding bytes
text_h = bytes "X,1,50,80\nX,2,95,120\nO,A,0,60,1\nO,B,40,60,3\nO,C,90,200,1\n"

-- document 02, No. 5: five places for two orders
unfoldable pub text_short : List ℕ
unfolding bytes
text_short = bytes "X,1,50,80\nX,4,95,120\nO,A,0,60,1\nO,B,40,60,3\n"

pub record Try : Type 0 where
  pub form : Form
  pub text : S.String
  pub refusal : Refusal

abbrev windows : S.String → Refusal → Try
windows text refusal = record { form = Windows; text = text; refusal = refusal }

abbrev timetable : S.String → Refusal → Try
timetable text refusal = record { form = Timetable; text = text; refusal = refusal }

unfoldable pub tries : List Try
tries =
    windows "" KindMissing
    ∷ windows "\n" (Malformed 1)
    ∷ windows "G,60" (Malformed 1)
    ∷ windows "G,060\n" (Malformed 1)
    ∷ windows "G,00\n" (Malformed 1)
    ∷ windows "G,60,\n" (Malformed 1)
    ∷ windows "G,0\n" (OutOfRange 1)
    ∷ windows "G,1234567\n" (Malformed 1)
    ∷ windows "G,999999\n" (OutOfRange 1)
    ∷ windows "G,60\nG,0\n" (TooMany 2)
    ∷ windows "G,60\nW,0,9\nG,0\n" (KindTooEarly 3)
    ∷ windows "G,60\nX,1,50,80\n" (Malformed 2)
    ∷ windows "G,60\nW,5,4\n" (OutOfOrder 2)
    ∷ windows "G,60\nW,0,9\nW,9,20\n" (OutOfOrder 3)
    ∷ windows "G,60\nO,ABCDEFGHIJKLM,0,0,1\n" (Malformed 2)
    ∷ windows "G,60\nO,a,0,0,1\n" (Malformed 2)
    ∷ windows "G,60\nT,1,30\nO,A,0,0,1\n" KindMissing
    ∷ windows "G,60\nW,0,9\nT,1,30\nO,A,0,0,1\nO,B,0,0,1\n" TooFewPlaces
    ∷ timetable "G,60\n" (Malformed 1)
    ∷ timetable "X,1,80,80\n" (OutOfOrder 1)
    ∷ timetable "X,1,50,80\nX,1,60,80\n" (OutOfOrder 2)
    ∷ timetable "O,A,0,60,1\nX,1,50,80\n" (KindTooEarly 2)
    ∷ []
