-- The columns behind gone trains are the outset behind them, and a search can set out from there. Assumes nothing.
use Rattle.std.specs.Prelude.{◌≡◌, ◌⊎◌, true, cond, List, ℕ, zero, suc, ◌≤◌, ◌<◌, eqb, length, take, replicate}
use Rattle.std.proofs.Common.{sym, ap, ◌∙◌, inl, inr, arith, ext_get_or, get_or-take, length-take-le}
use Rattle.std.proofs.lemmas.List.{get_or-replicate}
use Rattle.numbers.specs.Counting.{at, count}
use Rattle.numbers.specs.CountingLaws.{table_length, table_at}
use Rattle.numbers.specs.DecidesLaws.{decides_lt, decided}
use Rattle.model.specs.Sheet.{Sheet, places}
use Rattle.model.specs.Limits.{train_counts, order_counts}
use Rattle.model.specs.Memory.{sheet_of}
use Rattle.model.specs.Admission.{Admitted}
use Rattle.model.specs.Gone.{Gone, gone_by, WentWell}
use Rattle.model.specs.declared.Row.{Row}
use Rattle.model.specs.declared.Sheet as memory
use Rattle.rounds.specs.Outset.{Outset}
use Rattle.rounds.specs.Replan.{behind}
use Rattle.rounds.proofs.GoneLaws.{capacity_gone, capacity_left, since_gone, since_left, behind_sets}
use Rattle.rounds.specs.SettingOut.{Sets, Agree}
use Rattle.rounds.proofs.SameOutsetLaws.{sets_same}
use Rattle.columns.proofs.ColumnLaws.{nth_at}
use Rattle.foreign.specs.Gathered.{gathered, column_within}
use Rattle.search.specs.Setting.{outset_of}
use Rattle.search.specs.declared.Outset as columns
use Rattle.gone.specs.GonePart.{gone_part, Behind}
use Rattle.gone.proofs.FillLaws.{filled_here, filled_rest}
use Rattle.gone.proofs.WellLaws.{train_is, went_is}

module _ (m : memory.Sheet) (a : Admitted (sheet_of m)) (departure : List ℕ) (rows : List Row) (minute : ℕ) (column : List ℕ)
    (is : take (length departure) column ≡ departure) (remains : length departure < m.train_count)
    (e : column_within m.order_count (length departure) (gathered rows (length rows)) ≡ true) (c : columns.Outset)
    (long : length c.latest ≡ order_counts.most)
    (b : Behind m (length departure) (gathered rows (length rows)).train column minute c) where
  abbrev s : Sheet
  s = sheet_of m

  abbrev g : Gone
  g = gone_part departure rows minute

  abbrev gone : ℕ
  gone = length departure

  abbrev train : List ℕ
  train = (gathered rows (length rows)).train

  abbrev o : Outset
  o = outset_of m.order_count c

  places_agree : (i : ℕ) → 1 ≤ i → o.capacity i ≡ (behind s g).capacity i
  places_agree zero p = absurd (omega arith)
  places_agree (suc k) p = nth_at c.capacity k ∙ go (decided (decides_lt k gone))
    where
      go : (k < gone) ⊎ (¬ (k < gone)) → at c.capacity k ≡ (behind s g).capacity (suc k)
      go (inl u) =
          filled_here (λ k. count (λ j. eqb (at train j) (suc k)) m.order_count) (at m.capacity) c.capacity gone k b.capacity u
          ∙ went_is s a.few.orders a.few.trains departure rows minute remains e (suc k)
          ∙ sym (capacity_gone s g (suc k) p u)
      go (inr u) =
          filled_rest (λ k. count (λ j. eqb (at train j) (suc k)) m.order_count) (at m.capacity) c.capacity gone k b.capacity u
          ∙ sym (nth_at m.capacity k)
          ∙ sym (capacity_left s g (suc k) (omega arith))

  since_agree : (i : ℕ) → 1 ≤ i → i ≤ m.train_count → o.since i ≡ (behind s g).since i
  since_agree zero p l = absurd (omega arith)
  since_agree (suc k) p l = nth_at c.since k ∙ go (decided (decides_lt k gone))
    where
      go : (k < gone) ⊎ (¬ (k < gone)) → at c.since k ≡ (behind s g).since (suc k)
      go (inl u) =
          filled_here (at column) (at (replicate train_counts.most minute)) c.since gone k b.since u
          ∙ sym (get_or-take gone column k 0 u)
          ∙ ap (λ (t : List ℕ). at t k) is
          ∙ sym (nth_at departure k)
          ∙ sym (since_gone s g (suc k) p u)
      go (inr u) =
          filled_rest (at column) (at (replicate train_counts.most minute)) c.since gone k b.since u
          ∙ get_or-replicate train_counts.most k minute 0 (omega (arith, a.few.trains))
          ∙ sym (since_left s g (suc k) (omega arith))

  latest_agree : o.latest ≡ (behind s g).latest
  latest_agree =
      ext_get_or 0 o.latest (behind s g).latest (len ∙ sym (table_length _ m.order_count))
      (λ j h. same j (omega (arith, len)))
    where
      len : length o.latest ≡ m.order_count
      len = length-take-le m.order_count c.latest (omega (arith, long, a.few.orders))

      same : (j : ℕ) → j < m.order_count → at o.latest j ≡ at (behind s g).latest j
      same j l =
          get_or-take m.order_count c.latest j 0 l
          ∙ filled_here (λ j. cond (eqb (at train j) 0) m.train_count (at train j)) (at train) c.latest m.order_count j b.latest l
          ∙ ap (λ (x : ℕ). cond (eqb x 0) m.train_count x) (train_is s a.few.orders a.few.trains departure rows minute remains e j l)
          ∙ sym (table_at (λ j. cond (eqb (at (gone_by s g) j) 0) m.train_count (at (gone_by s g) j)) 0 m.order_count j l)

  -- THE COLUMNS ARE THE OUTSET BEHIND THE GONE TRAINS
  pub agree : Agree m.train_count o (behind s g)
  agree = record { capacity = places_agree; latest = latest_agree; since = since_agree }

  -- and where there are places enough the rounds can set out from them
  pub sets_behind : WentWell s g → m.order_count ≤ places (behind s g).capacity m.train_count → Sets s o
  sets_behind w enough = sets_same s o (behind s g) agree (behind_sets s g w enough)
