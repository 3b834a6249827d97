-- A PAGE OF 163,840 BYTES IS LONG ENOUGH FOR WHATEVER IS PRINTED OF A TEXT. Assumes nothing.
use Rattle.std.specs.Prelude.{◌≡◌, refl, List, [], ◌∷◌, ◌++◌, ℕ, zero, suc, ◌^◌, ◌≤◌, ◌<◌, pos, nat_abs, length, get_or}
use Rattle.std.proofs.Common.{arith}
use Rattle.numbers.specs.Counting.{at, nth}
use Rattle.model.specs.Sheet.{Sheet}
use Rattle.model.specs.Memory.{sheet_of}
use Rattle.model.specs.Limits.{most_printed}
use Rattle.model.specs.Lateness.{Pair, pair_at}
use Rattle.model.specs.Admission.{Admitted}
use Rattle.model.specs.declared.Refusal.{Refusal}
use Rattle.model.specs.declared.Refusal.TheVariants.{NoSchedule}
use Rattle.std.specs.Prelude.{Result, Ok, Err}
use Rattle.model.specs.declared.Sheet.{Sheet as SheetInMemory}
use Rattle.rounds.specs.Answers.{Answer, given, Listing, list}
use Rattle.rounds.specs.Areas.{pair_numbers, time_numbers, plan_times}
use Rattle.rounds.proofs.AreaLaws.{pair_numbers_length, plan_times_length}
use Rattle.rounds.proofs.AimLaws.{whole}
use Rattle.rounds.proofs.AnswerLaws.{Answered, no_schedule, listing, answered}
use Rattle.rounds.proofs.ScheduleLaws.{SmallPair}
use Rattle.rounds.proofs.SizeLaws.{list_sizes, plan_sizes}
use Rattle.fields.specs.NamePlaces.{NamesLie}
use Rattle.fields.specs.declared.NamePlaces.{NamePlaces}
use Rattle.sheet.specs.Sheets.{reading}
use Rattle.sheet.specs.declared.Reading.{Reading}
use Rattle.sheet.specs.ReadingCall.{ReadingCall}
use Rattle.sheet.proofs.ReadingCallLaws.{reads}
use Rattle.sheet.proofs.ReturnedLaws.{returned_bound}
use Rattle.printer.proofs.PlanLengthLaws.{plan_short}
use Rattle.layout.proofs.LengthLaws.{refusal_line_short}
use Rattle.desk.specs.Printing.{ReadBytes, TextBytes, form_of}
use Rattle.desk.specs.AnswerBytes.{last_recorded, listing_bytes, answer_bytes}
use Rattle.desk.proofs.AsBeforeLaws.{last_planned, as_before}

-- ---- the numbers in the areas

pair_numbers_small : (ps : List Pair) → ((k : ℕ) → k < length ps → SmallPair (pair_at ps k)) → (m : ℕ) → m < length (pair_numbers ps)
    → nat_abs (get_or (pair_numbers ps) m (pos 0)) < 1000000000
unfolding pair_numbers
pair_numbers_small [] h m l = absurd (omega arith)
pair_numbers_small (p ∷ ps) h zero l = omega (arith, (h 0 (omega arith)).last)
pair_numbers_small (p ∷ ps) h (suc zero) l = omega (arith, (h 0 (omega arith)).worst)
pair_numbers_small (p ∷ ps) h (suc (suc m)) l = pair_numbers_small ps (λ k u. h (suc k) (omega arith)) m (omega arith)

-- what bounds the elements of two lists bounds those of both together
both_small : (ahead behind : List ℕ) (top : ℕ) → ((k : ℕ) → k < length ahead → at ahead k < top) → ((k : ℕ) → k < length behind → at behind k < top)
    → (k : ℕ) → k < length (ahead ++ behind) → at (ahead ++ behind) k < top
both_small [] behind top h g k l = g k l
both_small (x ∷ ahead) behind top h g zero l = h 0 (omega arith)
both_small (x ∷ ahead) behind top h g (suc k) l = both_small ahead behind top (λ m u. h (suc m) (omega arith)) g k (omega arith)

time_numbers_small : (departure arrival window : List ℕ) (q : ℕ)
    → ((i : ℕ) → 1 ≤ i → i ≤ q → (nth departure i < 1000000000) × (nth arrival i < 1000000000) × (nth window i < 1000000000))
    → (k : ℕ) → k < length (time_numbers departure arrival window q) → at (time_numbers departure arrival window q) k < 1000000000
unfolding time_numbers
time_numbers_small departure arrival window zero h k l = absurd (omega arith)
time_numbers_small departure arrival window (suc q) h k l =
    both_small (time_numbers departure arrival window q) last 1000000000
    (time_numbers_small departure arrival window q (λ i u v. h i u (omega arith))) three k l
  where
    last : List ℕ
    last = nth departure (suc q) ∷ nth arrival (suc q) ∷ nth window (suc q) ∷ []

    three : (k : ℕ) → k < 3 → at last k < 1000000000
    three zero u = (h (suc q) (omega arith) (omega arith)).0
    three (suc zero) u = (h (suc q) (omega arith) (omega arith)).1
    three (suc (suc zero)) u = (h (suc q) (omega arith) (omega arith)).2
    three (suc (suc (suc k))) u = absurd (omega arith)

-- ---- a sheet

module _ (text : List ℕ) (names : NamePlaces) (named : NamesLie text names) (s : Sheet) (a : Admitted s) where
  listing_short : (l : Listing) → list s ≡ given l → length (listing_bytes text names s l (last_recorded s).plan) ≤ most_printed
  listing_short l u =
      let x = (last_recorded s).plan in
      let z = list_sizes s a u in
      let (own, booked) = last_planned s a u in
      let y = plan_sizes s a (last_recorded s) own booked in
      let many = pair_numbers_length l.pairs in
      let long = plan_times_length s x in
      plan_short text names (pair_numbers l.pairs) x.train (plan_times s x) l.rounds named
      (omega (arith, z.few_pairs)) (omega (arith, y.placed, a.few.orders)) (omega (arith, a.few.trains))
      (record {
        pairs_small = pair_numbers_small l.pairs z.pairs_small;
        trains_small = λ k l. omega (arith, y.trains_small k (omega (arith, y.placed)));
        times_small =
            time_numbers_small x.departure x.arrival x.window s.trains
            (λ i u v. (
              omega (arith, y.departures_small i u v),
              omega (arith, y.arrivals_small i u v),
              omega (arith, y.windows_small i u v),
            ));
        rounds_small = omega (arith, z.few_rounds);
      })

  answer_short : length (answer_bytes text names s (list s)) ≤ most_printed
  answer_short = go (list s) (answered s (whole s a)) refl
    where
      go : (x : Answer Listing) → Answered s (whole s a) x → list s ≡ x → length (answer_bytes text names s x) ≤ most_printed
      go x (no_schedule none) u = omega (arith, refusal_line_short NoSchedule (omega arith))
      go x (listing {l = l} h) u = listing_short l u

-- ---- whatever is printed

module _ (text : List ℕ) (bytes : List ℕ) (short : length text < 2 ^ 64) where
  read_fits : {defined : Result (Reading SheetInMemory) Refusal} (x : Result (Reading SheetInMemory) Refusal) → ReadingCall sheet_of text defined x
      → ReadBytes text x bytes → length bytes ≤ most_printed
  read_fits (Err q) call e = rw e (omega (arith, refusal_line_short q (omega (arith, returned_bound text q (call.refused q refl)))))
  read_fits (Ok r) call p =
      let a = call.admitted r refl in
      rw (as_before text r.names (sheet_of r.sheet) bytes a p) (answer_short text r.names (call.names_lie r refl) (sheet_of r.sheet) a)

  pub text_fits : TextBytes text bytes → length bytes ≤ most_printed
  text_fits p = let form = form_of text in read_fits (reading form text) (reads form text (reading form text) refl) p
