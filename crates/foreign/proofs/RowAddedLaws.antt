-- One more row: it is taken if its numbers are numbers that some sheet has, and its order was not met. Assumes nothing.
use Rattle.std.specs.Prelude.{◌≡◌, ◌⊎◌, Bool, true, ◌&&◌, ℕ, ◌-◌, length}
use Rattle.std.proofs.Common.{sym, ◌∙◌, ap, inl, inr, arith, length-set}
use Rattle.std.proofs.Math.Bool.{false}
use Rattle.std.proofs.Math.ListN.{set}
use Rattle.numbers.specs.Counting.{at}
use Rattle.numbers.specs.DecidesLaws.{Decides, decides_eq, decides_and, decided, cond_yes, cond_no}
use Rattle.model.specs.Limits.{Inside, inside, train_counts, order_counts}
use Rattle.model.proofs.AdmissionLaws.{decides_inside}
use Rattle.foreign.specs.Gathered.{new_row, row_added}
use Rattle.foreign.specs.declared.Given.{Given}

-- both are numbers that some sheet has
abbrev pub known : (order train : ℕ) → Bool
known order train = inside order_counts order && inside train_counts train

pub decides_known : (order train : ℕ) → Decides (Inside order_counts order × Inside train_counts train) (known order train)
decides_known order train = decides_and (decides_inside order_counts order) (decides_inside train_counts train)

abbrev pub NewRow : Given → (order train : ℕ) → Type 0
NewRow g order train = (Inside order_counts order × Inside train_counts train) × (at g.train (order - 1) ≡ 0)

decides_new_row : (g : Given) (order train : ℕ) → Decides (NewRow g order train) (new_row g order train)
decides_new_row g order train =
    decides_and (decides_known order train) (decides_eq (at g.train (order - 1)) 0)

module _ (g : Given) (order train : ℕ) where
  pub row_taken : NewRow g order train → row_added g order train ≡ record { train = set g.train (order - 1) train; sound = g.sound }
  unfolding row_added
  row_taken h =
      cond_yes (decides_new_row g order train) h (record { train = set g.train (order - 1) train; sound = g.sound })
      (record { train = g.train; sound = false })

  pub row_not_taken : ¬ (NewRow g order train) → row_added g order train ≡ record { train = g.train; sound = false }
  unfolding row_added
  row_not_taken h =
      cond_no (decides_new_row g order train) h (record { train = set g.train (order - 1) train; sound = g.sound })
      (record { train = g.train; sound = false })

  pub met_before : ¬ (at g.train (order - 1) ≡ 0) → row_added g order train ≡ record { train = g.train; sound = false }
  met_before f = row_not_taken (λ h. f h.1)

  pub added_length : length (row_added g order train).train ≡ length g.train
  added_length = go (decided (decides_new_row g order train))
    where
      go : NewRow g order train ⊎ (¬ (NewRow g order train)) → length (row_added g order train).train ≡ length g.train
      go (inl h) = rw (row_taken h) (length-set g.train (order - 1) train)
      go (inr h) = rw (row_not_taken h)

  -- sound with the row: sound before it, and the row is new
  pub added_sound : (row_added g order train).sound ≡ true → NewRow g order train × (g.sound ≡ true)
  added_sound e = go (decided (decides_new_row g order train))
    where
      go : NewRow g order train ⊎ (¬ (NewRow g order train)) → NewRow g order train × (g.sound ≡ true)
      go (inl h) = (h, sym (ap (λ (r : Given). r.sound) (row_taken h)) ∙ e)
      go (inr h) =
          let f : false ≡ true = sym (ap (λ (r : Given). r.sound) (row_not_taken h)) ∙ e in
          let z : ◌≡◌ {A = ℕ} 0 1 = cc in absurd (omega arith)
