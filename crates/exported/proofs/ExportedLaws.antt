-- The library's contracts, told in numbers. Assumes nothing.
use Rattle.std.specs.Prelude.{◌≡◌, refl, List, ℕ, ◌≤◌}
use Rattle.std.proofs.Common.{ap, arith}
use Rattle.model.specs.Sheet.{Sheet}
use Rattle.model.specs.Refusal.{number, returned}
use Rattle.std.specs.Prelude.{Result, Ok, Err}
use Rattle.sheet.specs.declared.Reading.{Reading}
use Rattle.exported.specs.declared.Cause.{Cause}
use Rattle.model.specs.declared.Refusal.{Refusal}
use Rattle.model.specs.declared.Refusal.TheVariants.{Malformed, OutOfRange, KindTooEarly, TooMany, KindMissing, OutOfOrder, TooFewPlaces}
use Rattle.model.specs.declared.Refusal.TheVariants.{NoSchedule, AreaTooShort, WishTooEarly, WrongRows, RuleBroken, GoneWrong}
use Rattle.sheet.specs.ReadingCall.{ReadingCall}
use Rattle.exported.specs.Exported.{no_cause, cause_of, ExportedReading}

-- every refusal has a number
pub numbered : (r : Refusal) → 1 ≤ number r
numbered (Malformed line) = omega arith
numbered (OutOfRange line) = omega arith
numbered (KindTooEarly line) = omega arith
numbered (TooMany line) = omega arith
numbered KindMissing = omega arith
numbered (OutOfOrder line) = omega arith
numbered TooFewPlaces = omega arith
numbered NoSchedule = omega arith
numbered AreaTooShort = omega arith
numbered WishTooEarly = omega arith
numbered WrongRows = omega arith
numbered RuleBroken = omega arith
numbered GoneWrong = omega arith

-- what a reading call of the library promises, the exported one does: it tells of a reply its cause and its sheet
module _ {S R : Type 0} (told : Result (Reading S) Refusal → R) (cause : R → Cause) (sheet : R → S) (empty : S) where
  pub record Tells : Type 0 where
    pub read : (x : Reading S) → (cause (told (Ok x)) ≡ no_cause) × (sheet (told (Ok x)) ≡ x.sheet)
    pub refused : (f : Refusal) → (cause (told (Err f)) ≡ cause_of f) × (sheet (told (Err f)) ≡ empty)

  pub exported_reading : Tells → (meant : S → Sheet) (text : List ℕ) (d x : Result (Reading S) Refusal) (r : R)
      → ((meant empty).orders ≡ 0) × ((meant empty).trains ≡ 0) → ReadingCall meant text d x → r ≡ told x
      → ExportedReading text (told d) r (cause r) (meant (sheet r))
  exported_reading t meant text d (Ok reading) r none call e =
      let (is, same) = t.read reading in
      rw e
      (record {
        equal = ap told call.equal;
        admitted = λ u. rw same (call.admitted reading refl);
        numbered = rw is (omega arith);
        line = λ u. absurd (let w = rw is at u in let z : ◌≡◌ {A = ℕ} 0 1 = cc in omega arith);
        no_line = λ u. rw is refl;
        seven = λ u. absurd (let w = rw is at u in omega (arith, w));
        no_sheet = λ u. absurd (let w = rw is at u in omega (arith, w));
      })
  exported_reading t meant text d (Err f) r none call e =
      let refusal = call.refused f refl in
      let (is, same) = t.refused f in
      rw e
      (record {
        equal = ap told call.equal;
        admitted = λ u. absurd (let w = rw is at u in omega (arith, w, refusal.numbered.0));
        numbered = rw is refusal.numbered.1;
        line = rw is refusal.line;
        no_line = rw is refusal.no_line;
        seven = rw is refusal.seven;
        no_sheet = λ u. rw same none;
      })
