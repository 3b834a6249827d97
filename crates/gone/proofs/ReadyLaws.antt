-- From the tests of the gone part to the answer. Assumes nothing.
use Rattle.std.proofs.Math.Path.{◌≡◌, refl, ap}
use Rattle.std.proofs.Common.{sym, ◌∙◌, inl, inr, arith}
use Rattle.std.specs.Prelude.{◌⊎◌, Bool, List, ℕ, ◌-◌, ◌≤◌, ◌<◌, leb, length, take}
use Rattle.std.proofs.Math.Bool.{true, false, cond}
use Rattle.numbers.specs.Counting.{nth}
use Rattle.numbers.specs.DecidesLaws.{Decides, decides_le, decides_lt, decided, test_true, test_false, test_means, test_fails}
use Rattle.model.specs.Sheet.{Sheet, places}
use Rattle.model.specs.Limits.{order_counts}
use Rattle.model.specs.Memory.{sheet_of}
use Rattle.model.specs.Admission.{Admitted}
use Rattle.model.specs.Gone.{Gone, gone_trains, went, WentWell, went_well}
use Rattle.model.proofs.GoneTestLaws.{decides_went_well}
use Rattle.std.specs.Prelude.{Result, Ok, Err}
use Rattle.model.specs.Refusal.{of_reply}
use Rattle.model.specs.Replies.{Admission}
use Rattle.model.specs.declared.Refusal.{Refusal}
use Rattle.model.specs.declared.Refusal.TheVariants.{NoSchedule, GoneWrong}
use Rattle.model.specs.declared.Row.{Row}
use Rattle.model.specs.declared.Sheet as memory
use Rattle.rounds.specs.Replan.{behind, outnumbered, after_gone}
use Rattle.rounds.proofs.GoneLaws.{too_few, enough}
use Rattle.rounds.specs.SettingOut.{Agree}
use Rattle.rounds.proofs.SameOutsetLaws.{places_same}
use Rattle.rounds.specs.Answers.{Answer, refused}
use Rattle.foreign.specs.Gathered.{gathered, column_within}
use Rattle.foreign.proofs.WithinLaws.{within_rows}
use Rattle.foreign.specs.declared.Given.{Given}
use Rattle.search.specs.Setting.{outset_of}
use Rattle.search.specs.declared.Outset.{Outset}
use Rattle.gone.specs.GonePart.{gone_part, Behind}
use Rattle.gone.proofs.BehindLaws.{agree, sets_behind}
use Rattle.gone.specs.Ready.{gone_tested, CanSetOut, SetOut}

-- ---- what the tests say is what the answer is

module _ {A : Type 0} (s : Sheet) (g : Gone) (x : Answer A) where
  pub gone_refused : (f : Refusal) → gone_tested s g ≡ Err f → after_gone s g x ≡ refused f
  unfolding after_gone
  gone_refused f e = go (went_well s g) (outnumbered s g) e
    where
      go : (b d : Bool) → ◌≡◌ {A = Admission} (cond b (cond d (Err NoSchedule) (Ok tt)) (Err GoneWrong)) (Err f)
          → cond b (cond d (refused NoSchedule) x) (refused GoneWrong) ≡ refused f
      go true true u = let z : NoSchedule ≡ f = cc in ap refused z
      go true false u = absurd (let z : ◌≡◌ {A = ℕ} 0 1 = cc in omega arith)
      go false d u = let z : GoneWrong ≡ f = cc in ap refused z

  pub gone_granted : gone_tested s g ≡ Ok tt → after_gone s g x ≡ x
  unfolding after_gone
  gone_granted e = go (went_well s g) (outnumbered s g) e
    where
      go : (b d : Bool) → ◌≡◌ {A = Admission} (cond b (cond d (Err NoSchedule) (Ok tt)) (Err GoneWrong)) (Ok tt)
          → cond b (cond d (refused NoSchedule) x) (refused GoneWrong) ≡ x
      go true true u = absurd (let z : ◌≡◌ {A = ℕ} 0 1 = cc in omega arith)
      go true false u = refl
      go false d u = absurd (let z : ◌≡◌ {A = ℕ} 0 1 = cc in omega arith)

-- ---- how the code comes to them

pub none_set : (m : memory.Sheet) (r : Result Outset Refusal) (f : Refusal) → r ≡ Err f → CanSetOut m r
none_set m r f u o v = absurd (let z : ◌≡◌ {A = ℕ} 0 1 = cc in omega arith)

module _ (m : memory.Sheet) (a : Admitted (sheet_of m)) (departure : List ℕ) (rows : List Row) (minute : ℕ) (given : Given)
    (is : given ≡ gathered rows (length rows)) where
  abbrev s : Sheet
  s = sheet_of m

  abbrev g : Gone
  g = gone_part departure rows minute

  pub set_wrong : (r : Result Outset Refusal) → false ≡ went_well s g → r ≡ Err GoneWrong → SetOut m g r
  set_wrong r e u =
      record {
        is = ap of_reply u ∙ ap (λ (b : Bool). cond {A = Admission} b (cond (outnumbered s g) (Err NoSchedule) (Ok tt)) (Err GoneWrong)) e;
        columns = λ o v. absurd (let z : ◌≡◌ {A = ℕ} 0 1 = cc in omega arith);
        sets = λ o v. absurd (let z : ◌≡◌ {A = ℕ} 0 1 = cc in omega arith);
      }

  module _ (e : true ≡ went_well s g) (column : List ℕ) (departs : take (length departure) column ≡ departure) (c : Outset)
      (long : length c.latest ≡ order_counts.most) (b : Behind m (length departure) given.train column minute c) where
    well : WentWell s g
    well = test_means (decides_went_well s g) (sym e)

    fits : column_within m.order_count (length departure) (gathered rows (length rows)) ≡ true
    fits =
        test_true (within_rows m.order_count (length departure) a.few.orders (omega (arith, well.remains, a.few.trains)) rows)
        (record { orders = well.orders; trains = well.trains; once = well.once })

    agrees : Agree m.train_count (outset_of m.order_count c) (behind s g)
    agrees = agree m a departure rows minute column departs well.remains fits c long (rw is at b)

    -- the places are those behind the gone trains
    K : places (nth c.capacity) m.train_count ≡ places (behind s g).capacity m.train_count
    K = places_same (nth c.capacity) (behind s g).capacity m.train_count (λ i p l. agrees.capacity i p)

    abbrev Few : Type 0
    Few = places s.capacity s.trains - places s.capacity (gone_trains g) < went s g 0

    decides_few : Decides Few (outnumbered s g)
    decides_few = decides_lt (places s.capacity s.trains - places s.capacity (gone_trains g)) (went s g 0)

    -- whether the columns have places for all
    abbrev all_fit : Bool
    all_fit = leb m.order_count (places (nth c.capacity) m.train_count)

    decides_room : Decides (m.order_count ≤ places (nth c.capacity) m.train_count) all_fit
    decides_room = decides_le m.order_count (places (nth c.capacity) m.train_count)

    pub set_few : (r : Result Outset Refusal) → all_fit ≡ false → r ≡ Err NoSchedule → SetOut m g r
    set_few r few u =
        let none : outnumbered s g ≡ true = test_true decides_few (outnumber (decided decides_few)) in
        record {
          is = ap of_reply u ∙ rw (← e, none);
          columns = λ o v. absurd (let z : ◌≡◌ {A = ℕ} 0 1 = cc in omega arith);
          sets = λ o v. absurd (let z : ◌≡◌ {A = ℕ} 0 1 = cc in omega arith);
        }
      where
        outnumber : Few ⊎ (¬ Few) → Few
        outnumber (inl h) = h
        outnumber (inr h) = absurd (test_fails decides_room few (omega (arith, K, enough s g well h)))

    pub set_granted : (r : Result Outset Refusal) → all_fit ≡ true → r ≡ Ok c → SetOut m g r
    set_granted r many u =
        let room : m.order_count ≤ places (behind s g).capacity m.train_count = omega (arith, K, test_means decides_room many) in
        let some : outnumbered s g ≡ false = test_false decides_few (λ h. too_few s g well h room) in
        record {
          is = ap of_reply u ∙ rw (← e, some);
          columns = λ o w. let same : c ≡ o = cc in rw (← same) agrees;
          sets = λ o w. let same : c ≡ o = cc in rw (← same) (sets_behind m a departure rows minute column departs well.remains fits c long (rw is at
              b) well room);
        }
