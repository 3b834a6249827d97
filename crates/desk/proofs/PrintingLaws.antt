-- Laws of what is printed of a text: each call's part in it, and that all of it is. Assumes nothing.
use Rattle.std.proofs.Math.Path.{◌≡◌}
use Rattle.std.specs.Prelude.{refl, true, cond, Option, Some, None, List, ℕ, ◌*◌, ◌≤◌, leb, ℤ, length, take, drop}
use Rattle.std.proofs.Common.{sym, ap, subst, ◌∙◌, arith, length-append, length-drop, le-leb}
use Rattle.numbers.specs.Over.{over}
use Rattle.model.specs.Sheet.{Sheet}
use Rattle.model.specs.Memory.{sheet_of}
use Rattle.model.specs.Limits.{order_counts, numbers_a_pair, numbers_a_train, most_pair_numbers, most_time_numbers}
use Rattle.model.specs.declared.Form.{Form}
use Rattle.std.specs.Prelude.{Result, Ok, Err}
use Rattle.model.specs.declared.Sheet.{Sheet as SheetInMemory}
use Rattle.model.specs.Replies.{ListReply, ChoiceReply, listed_as}
use Rattle.model.specs.declared.Refusal.{Refusal}
use Rattle.rounds.specs.Answers.{given, last_arrival_in}
use Rattle.rounds.specs.Areas.{PlanAreas, choice_reply}
use Rattle.fields.specs.declared.NamePlaces.{NamePlaces}
use Rattle.sheet.specs.Sheets.{reading}
use Rattle.sheet.specs.declared.Reading.{Reading}
use Rattle.planner.specs.InAreas.{pairs_in}
use Rattle.planner.specs.Listing.{ListingCall}
use Rattle.planner.specs.Choosing.{ChoosingCall}
use Rattle.writing.specs.Writing.{Prints}
use Rattle.layout.specs.Lines.{refusal_line}
use Rattle.printer.specs.PlanBytes.{plan_bytes}
use Rattle.desk.specs.Printing.{form_of, PlanBytes, ListBytes, SheetBytes, ReadBytes, TextBytes, TextPrinted, Put}
use Rattle.areas.specs.Wish.{ForLast}
use Rattle.desk.proofs.WishLaws.{wished_last}
use Rattle.desk.specs.AnswerBytes.{last_recorded}
use Rattle.desk.proofs.ListedLaws.{has_listed, last_answered}

-- ---- what each call shows

-- of what a listing call gave
module _ (text : List ℕ) (names : NamePlaces) (s : Sheet) (x : ListReply) (left lent : List ℤ) (pairs_lent : length lent ≡ most_pair_numbers)
    (call : ListingCall s x left lent) {found : List ℕ} {r : Option ℕ} {after : List ℕ} where
  put_sheet : Put (ListBytes x text names s left) found r after → Put (SheetBytes text names s) found r after
  put_sheet p =
      record {
        bytes = p.bytes;
        of_text = record { reply = x; left = left; lent = lent; pairs_lent = pairs_lent; call = call; printed = p.of_text };
        prints = p.prints;
      }

  pub listing_refused : (q : Refusal) → x ≡ Err q → Prints (refusal_line q) found r after → Put (SheetBytes text names s) found r after
  listing_refused q e h = put_sheet (rw e (record { bytes = refusal_line q; of_text = refl; prints = h }))

  pub plan_put : (count rounds : ℕ) → x ≡ listed_as count rounds → Put (PlanBytes text names s count rounds left) found r after
      → Put (SheetBytes text names s) found r after
  plan_put count rounds e p = put_sheet (rw e p)

-- of what a choosing call gave to the wish for the last arrival of these pairs
module _ (s : Sheet) (count rounds : ℕ) (pairs : List ℤ) (x : ChoiceReply) (left : PlanAreas) where
  abbrev chosen : ChoiceReply
  chosen = choice_reply (given (last_recorded s))

  -- it is the last recorded plan
  pub record ChosenLast : Type 0 where
    pub lent : PlanAreas
    pub trains_lent : length lent.trains ≡ order_counts.most
    pub times_lent : length lent.times ≡ most_time_numbers
    pub call : ChoosingCall s (last_arrival_in (pairs_in count pairs)) chosen left lent
    pub is : x ≡ chosen

  pub chosen_last : ((found : List ℤ) × ListingCall s (listed_as count rounds) pairs found) → (wish : ℕ) → ForLast count pairs wish
      → (lent : PlanAreas) → length lent.trains ≡ order_counts.most → length lent.times ≡ most_time_numbers → ChoosingCall s wish x left lent
      → ChosenLast
  chosen_last (found, listing) wish for_last lent trains_lent times_lent call =
      let h = has_listed s count rounds pairs found listing in
      let last = last_arrival_in (pairs_in count pairs) in
      let wished : ChoosingCall s last x left lent =
      subst (λ (w : ℕ). ChoosingCall s w x left lent) (wished_last s count rounds pairs found h wish for_last) call in
      let is : x ≡ chosen = wished.equal.replied ∙ ap choice_reply (last_answered s count rounds pairs found h lent trains_lent times_lent) in
      record {
        lent = lent;
        trains_lent = trains_lent;
        times_lent = times_lent;
        call = subst (λ (y : ChoiceReply). ChoosingCall s last y left lent) is wished;
        is = is;
      }

  pub never_refused : ChosenLast → (q : Refusal) → ¬ (x ≡ Err q)
  unfolding choice_reply
  never_refused c q e = let is = c.is in let z : ◌≡◌ {A = ℕ} 0 1 = cc in omega arith

  pub plan_printed : ChosenLast → (text : List ℕ) (names : NamePlaces) {found : List ℕ} {r : Option ℕ} {after : List ℕ}
      → (numbers : List ℤ) (loaded timed : List ℕ) → numbers ≡ take (numbers_a_pair * count) pairs
      → loaded ≡ take s.orders left.trains → timed ≡ take (numbers_a_train * s.trains) left.times
      → Prints (plan_bytes text names numbers loaded timed rounds) found r after → Put (PlanBytes text names s count rounds pairs) found r after
  unfolding choice_reply
  plan_printed c text names numbers loaded timed p l t h =
      record {
        bytes = plan_bytes text names numbers loaded timed rounds;
        of_text = record {
          pair = (last_recorded s).pair;
          left = left;
          lent = c.lent;
          trains_lent = c.trains_lent;
          times_lent = c.times_lent;
          call = c.call;
          printed = rw (p, l, t) refl;
        };
        prints = h;
      }

-- of the reading x of a text by its form
module _ (text : List ℕ) (form : Form) (by_form : form ≡ form_of text) (x : Result (Reading SheetInMemory) Refusal) (read : x ≡ reading form text)
    {found : List ℕ} {r : Option ℕ} {after : List ℕ} where
  put_text : Put (ReadBytes text x) found r after → Put (TextBytes text) found r after
  put_text p =
      subst (λ (f : Form). Put (ReadBytes text (reading f text)) found r after) by_form
      (subst (λ (y : Result (Reading SheetInMemory) Refusal). Put (ReadBytes text y) found r after) read p)

  pub reading_refused : (q : Refusal) → x ≡ Err q → Prints (refusal_line q) found r after → Put (TextBytes text) found r after
  reading_refused q e h = put_text (rw e (record { bytes = refusal_line q; of_text = refl; prints = h }))

  pub sheet_put : (y : Reading SheetInMemory) → x ≡ Ok y → Put (SheetBytes text y.names (sheet_of y.sheet)) found r after
      → Put (TextBytes text) found r after
  sheet_put y e p = put_text (rw e p)

-- ---- all of it is printed

module _ (text found : List ℕ) (r : Option ℕ) (after : List ℕ) (p : Put (TextBytes text) found r after) (fit : length p.bytes ≤ length found) where
  room : leb (length p.bytes) (length found) ≡ true
  room = le-leb (length p.bytes) (length found) fit

  pub told_all : r ≡ Some (length p.bytes)
  told_all = p.prints.answer ∙ ap (λ t. cond t (Some (length p.bytes)) None) room

  pub all_printed : (n : ℕ) → r ≡ Some n → TextPrinted text found n after
  all_printed n e =
      record {
        bytes = p.bytes;
        of_text = p.of_text;
        fit = fit;
        all = let k : Some n ≡ Some (length p.bytes) = sym e ∙ told_all in cc;
        page = p.prints.out ∙ ap (λ t. cond t (over p.bytes found) found) room;
      }

-- so what is given lies in the page
pub text_within : (text found : List ℕ) (n : ℕ) (after : List ℕ) → TextPrinted text found n after → n ≤ length after
text_within text found n after p =
    rw p.page (omega (arith, p.fit, p.all, length-append p.bytes (drop (length p.bytes) found), length-drop (length p.bytes) found))
