-- WHAT THE DEFINITIONS READ IS WHAT A READING CALL PROMISES. Assumes nothing.
use Rattle.std.specs.Prelude.{◌≡◌, refl, Result, Ok, Err, List, ℕ}
use Rattle.std.proofs.Common.{sym, ap, subst, ◌∙◌}
use Rattle.model.specs.Sheet.{Sheet}
use Rattle.model.specs.Memory.{sheet_of}
use Rattle.model.specs.Admission.{Admitted}
use Rattle.model.specs.declared.Form.{Form}
use Rattle.model.specs.declared.Refusal.{Refusal}
use Rattle.model.specs.declared.Sheet as memory
use Rattle.fields.specs.NamePlaces.{NamesLie}
use Rattle.sheet.specs.Reading.{read_from}
use Rattle.sheet.specs.Sheets.{sheet_from, names_from, reading_of, reading_as, reading}
use Rattle.sheet.specs.ReadingCall.{ReadingCall}
use Rattle.sheet.proofs.AdmissionLaws.{lines_admitted}
use Rattle.sheet.proofs.TextLaws.{made_of, refused_of, reading_holds}
use Rattle.sheet.proofs.ReturnedLaws.{text_refusal}
use Rattle.sheet.specs.declared.Reading.{Reading}

-- of a call that gives the struct of a form, which means what the sheet in memory does
module _ {S : Type 0} (meant : S → Sheet) (columns : memory.Sheet → S) (form : Form)
    (keeps : (s : memory.Sheet) → s.form ≡ form → meant (columns s) ≡ sheet_of s) (text : List ℕ) where
  pub reads_as : (x : Result (Reading S) Refusal) → x ≡ reading_as columns form text → ReadingCall meant text (reading_as columns form text) x
  unfolding reading_as sheet_from names_from
  reads_as x e =
      record {
        equal = e;
        admitted = λ r f.
            reading_holds columns form text (λ r. Admitted (meant r.sheet))
            (λ s good named ended. subst Admitted (sym (keeps (sheet_from form s) refl)) (lines_admitted form s good ended)) r (sym e ∙ f);
        refused = λ r f. text_refusal form text r (refused_of columns form (read_from form text 0) r (sym e ∙ f));
        named = λ r f.
            reading_holds columns form text (λ r. r.names.count ≡ (meant r.sheet).orders)
            (λ s good named ended. ap (λ (t : Sheet). t.orders) (sym (keeps (sheet_from form s) refl))) r (sym e ∙ f);
        names_lie = λ r f.
            reading_holds columns form text (λ r. NamesLie text r.names)
            (λ s good named ended. record { few = good.orders.few; names = named }) r (sym e ∙ f);
      }

  columns_read : (r : Reading memory.Sheet) → reading form text ≡ Ok r
      → reading_as columns form text ≡ Ok (record { sheet = columns r.sheet; names = r.names })
  unfolding reading_as reading
  columns_read r e =
      let (s, of, made) = made_of (λ s. s) form (read_from form text 0) r e in
      ap (reading_of columns form) of ∙ ap (λ (r : Reading memory.Sheet). Ok (record { sheet = columns r.sheet; names = r.names })) (sym made)

  columns_refused : (r : Refusal) → reading form text ≡ Err r → reading_as columns form text ≡ Err r
  unfolding reading_as reading
  columns_refused r e = ap (reading_of columns form) (refused_of (λ s. s) form (read_from form text 0) r e)

  -- it gives the columns of what the call of this form gives, or its refusal
  pub columns_given : (k : Form) → k ≡ form → (r : Reading memory.Sheet) → ReadingCall sheet_of text (reading k text) (Ok r)
      → ReadingCall meant text (reading_as columns form text) (Ok (record { sheet = columns r.sheet; names = r.names }))
  columns_given k e r call =
      reads_as (Ok (record { sheet = columns r.sheet; names = r.names })) (sym (columns_read r (ap (λ (f : Form). reading f text) (sym e) ∙ sym call.equal)))

  pub refusal_given : (k : Form) → k ≡ form → (q : Refusal) → ReadingCall sheet_of text (reading k text) (Err q)
      → ReadingCall meant text (reading_as columns form text) (Err q)
  refusal_given k e q call = reads_as (Err q) (sym (columns_refused q (ap (λ (f : Form). reading f text) (sym e) ∙ sym call.equal)))

pub reads : (form : Form) (text : List ℕ) (x : Result (Reading memory.Sheet) Refusal) → x ≡ reading form text
    → ReadingCall sheet_of text (reading form text) x
unfolding reading
reads form text x e = reads_as sheet_of (λ s. s) form (λ s e. refl) text x e
