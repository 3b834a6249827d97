-- `search::round::round_from` meets its contract: step 2 stops it, or steps 3 to 5 together are the round. Assumes nothing.
use Rattle.std.proofs.Common.{◌≡◌, refl, sym, ap, ◌∙◌, subst, Option, Some, List, ℕ}
use Rattle.std.proofs.Common.{◌+◌, ◌-◌, ◌≤◌, ◌<◌, take, arith, rules, SFits, w64, to_z-of_z, get_or-take}
use Rattle.numbers.specs.Counting.{at, nth}
use Rattle.model.specs.declared.Sheet as sheet
use Rattle.model.specs.Memory.{sheet_of}
use Rattle.model.specs.Admission.{Admitted}
use Rattle.model.specs.Lateness.{worst}
use Rattle.model.specs.Limits.{last_arrival}
use Rattle.rounds.specs.Timing.{timed}
use Rattle.rounds.specs.SettingOut.{Sets}
use Rattle.rounds.specs.Rounds.{loading_from, times_from}
use Rattle.columns.specs.Columns.{UpTo, Loaded}
use Rattle.columns.proofs.ColumnLaws.{loaded_column}
use Rattle.loading.specs.ToLoad.{ToLoad}
use Rattle.timing.specs.Timed.{timed_in}
use Rattle.timing.specs.declared.Times.{Times}
use Rattle.lowering.proofs.RangedLaws.{in_ranges, arrives}
use Rattle.lowering.proofs.LoweringStepLaws.{worst_taken, lower_taken}
use Rattle.search.specs.Setting.{outset_of}
use Rattle.search.proofs.SettingLaws.{places_few, places_enough}
use Rattle.search.specs.Parts.{BegunFrom, Graded}
use Rattle.search.proofs.PartsLaws.{loads, graded_better, graded_worse, few_rounds, made_in_time, arrives_to}
use Rattle.search.proofs.RoundLaws.{round_stopped, round_made}
use Rattle.search.specs.declared.Outset as memory
use Rattle.search.specs.declared.Progress.{Progress}
use Rattle.search.proofs.round.round_from.Goals as goal
use Rattle.search.proofs.round.round_from.Goals.{then-worst-progress, else-worst-progress}

-- where the round is begun
module _ (m : sheet.Sheet) (o : memory.Outset) (p : Progress) (admitted : Admitted (sheet_of m))
    (sets : Sets (sheet_of m) (outset_of m.order_count o)) (begun : BegunFrom (sheet_of m) (outset_of m.order_count o) p) where
  -- step 1
  abbrev loading : List ℕ
  loading = loading_from (sheet_of m) (outset_of m.order_count o) (take m.order_count p.latest)

  to_load : ToLoad m.order_count m.train_count m.release o.capacity p.latest p.train
  to_load =
      let a = admitted in
      record {
        few_orders = a.few.orders;
        few_trains = a.few.trains;
        releases = λ j l. (a.within_range.orders j l).release.1;
        capacities = places_few m a o sets;
        may_ride = begun.latest;
        begins = begun.orderly;
      }

  -- where the trains are loaded: the first orders' trains are those of step 1
  module _ (train : List ℕ) (loaded : take m.order_count train ≡ loading) where
    rides : Loaded (sheet_of m) (take m.order_count train)
    rides = subst (Loaded (sheet_of m)) (sym loaded) (loads (sheet_of m) (outset_of m.order_count o) admitted p begun)

    -- where they are timed
    module _ (out : Option Times) (times : timed_in m.train_count out ≡ times_from (sheet_of m) (outset_of m.order_count o) (take m.order_count train)) where
      timings : times_from (sheet_of m) (outset_of m.order_count o) loading ≡ timed_in m.train_count out
      timings = ap (times_from (sheet_of m) (outset_of m.order_count o)) (sym loaded) ∙ sym times

      -- step 2 does not stop it
      module _ (t : Times) (runs : out ≡ Some t) where
        made : times_from (sheet_of m) (outset_of m.order_count o) loading
            ≡ timed (take m.train_count t.departure) (take m.train_count t.arrival) (take m.train_count t.window)
        made = timings ∙ ap (timed_in m.train_count) runs

        in_time : UpTo last_arrival m.train_count t.arrival
        in_time = made_in_time (sheet_of m) (outset_of m.order_count o) admitted _ t made

pub load-train-requires : goal.load-train-requires
load-train-requires c = to_load c.args.sheet.columns c.args.outset c.args.progress c.args.sheet.admitted c.requires.sets c.requires.ended_value.1

pub time_trains_since-times-requires : goal.time_trains_since-times-requires
time_trains_since-times-requires c =
    loaded_column (sheet_of c.args.sheet.columns) c.load-train.result
    (rides c.args.sheet.columns c.args.outset c.args.progress c.args.sheet.admitted c.requires.sets c.requires.ended_value.1 c.load-train.result
    c.load-train.ensures)

pub overflow_add-progress : goal.overflow_add-progress
overflow_add-progress c =
    omega (
      arith,
      few_rounds (sheet_of c.args.sheet.columns) (outset_of c.args.sheet.columns.order_count c.args.outset) c.args.sheet.admitted c.args.progress
          c.requires.ended_value.1,
    )

pub worst_of-worst-requires : goal.worst_of-worst-requires
worst_of-worst-requires c =
    let m = c.args.sheet.columns in
    let a = c.args.sheet.admitted in
    let b = c.requires.ended_value.1 in (
      a.complete.orders,
      in_ranges m a,
      arrives m a c.load-train.result c.in-Some.timed.arrival
          (loaded_column (sheet_of m) c.load-train.result (rides c.args.sheet.columns c.args.outset c.args.progress c.args.sheet.admitted c.requires.sets b
          c.load-train.result c.load-train.ensures))
          (in_time c.args.sheet.columns c.args.outset c.args.progress c.args.sheet.admitted c.requires.sets b c.load-train.result c.load-train.ensures
          c.time_trains_since-times.result c.time_trains_since-times.ensures
          c.in-Some.timed c.in-Some.is),
    )

pub lower-lowered-requires : goal.lower-lowered-requires
lower-lowered-requires c =
    let m = c.args.sheet.columns in
    let a = c.args.sheet.admitted in
    let b = c.requires.ended_value.1 in (
      in_ranges m a,
      arrives_to m a c.in-Some.timed.arrival c.args.progress.latest
          (in_time c.args.sheet.columns c.args.outset c.args.progress c.args.sheet.admitted c.requires.sets b c.load-train.result c.load-train.ensures
          c.time_trains_since-times.result c.time_trains_since-times.ensures
          c.in-Some.timed c.in-Some.is)
          b.latest,
    )

pub is_crowded-requires : goal.is_crowded-requires
is_crowded-requires c =
    let m = c.args.sheet.columns in
    let a = c.args.sheet.admitted in
    let h = c.requires.sets in
    (a.few.orders, a.few.trains, places_few m a c.args.outset h, places_enough m a c.args.outset h)

pub returns-after-worst-progress-clause-is : goal.returns-after-worst-progress-clause-is
returns-after-worst-progress-clause-is c =
    let m = c.args.sheet.columns in
    let a = c.args.sheet.admitted in
    let b = c.requires.ended_value.1 in
    let p = c.args.progress in
    let its = c.in-Some.timed in
    let train = c.load-train.result in
    -- its worst lateness and the limit are compared as they are
    let fits : SFits w64 p.limit = search rules in
    let limit_is = to_z-of_z {w = w64} fits in
    let same_worst = to_z-of_z {w = w64} {z = c.worst_of-worst.result} (record { sfits = c.worst_of-worst.type_inv }) in
    let worst_is = c.worst_of-worst.ensures
    ∙ worst_taken (at m.weight) (at m.due) (take m.order_count train) its.arrival m.train_count m.order_count a.complete.orders
    (rides m c.args.outset p c.args.sheet.admitted c.requires.sets b train c.load-train.ensures) in
    let last_is = c.last_of-last.ensures
    ∙ sym (get_or-take m.train_count its.arrival (m.train_count - 1) 0 (omega (arith, a.complete.trains))) in
    let r = c.if-worst-progress.progress in
    let graded : (r.rounds ≡ p.rounds + 1) × Graded p r its (worst (sheet_of m) (take m.order_count train) (nth (take m.train_count its.arrival)))
    (nth (take m.train_count its.arrival) m.train_count) =
    elim c.if-worst-progress.branch [
      | then-worst-progress w ↦
          let better = rw (same_worst ∙ worst_is, limit_is) at w.if-worst-progress.true in (
            ap (λ (r : Progress). r.rounds) w.progress-is,
            graded_better p r its _ _ better (ap (λ (r : Progress). r.recorded) w.progress-is)
                (ap (λ (r : Progress). r.limit) w.progress-is ∙ same_worst ∙ worst_is) (ap (λ (r : Progress). r.last) w.progress-is ∙ last_is),
          )
      | else-worst-progress w ↦
          let worse = rw (same_worst ∙ worst_is, limit_is) at w.if-worst-progress.false in (
            ap (λ (r : Progress). r.rounds) w.progress-is,
            graded_worse p r its _ _ worse (ap (λ (r : Progress). r.recorded) w.progress-is)
                (ap (λ (r : Progress). r.limit) w.progress-is) (ap (λ (r : Progress). r.last) w.progress-is),
          )
    ] in
    let left : SFits w64 r.limit = search rules in
    let latest = take m.order_count p.latest in
    let low : (k : ℕ) → k < m.order_count → at latest k ≤ m.train_count =
    λ k l. omega (arith, get_or-take m.order_count p.latest k 0 l, b.latest k l) in
    let lowered = rw (to_z-of_z {w = w64} left) at c.lower-lowered.ensures
    ∙ lower_taken (at m.weight) (at m.due) its.arrival r.limit latest m.train_count m.order_count low in
    round_made (sheet_of m) (outset_of m.order_count c.args.outset) p _ c.requires.ended_value.0 graded.0 its b.latest c.load-train.ensures
    (made m c.args.outset p c.args.sheet.admitted c.requires.sets b train c.load-train.ensures _ c.time_trains_since-times.ensures c.in-Some.timed
    c.in-Some.is) graded.1
    (lowered, c.is_crowded.ensures)

pub returns-in_default-clause-is : goal.returns-in_default-clause-is
returns-in_default-clause-is c =
    let b = c.requires.ended_value.1 in
    round_stopped (sheet_of c.args.sheet.columns) (outset_of c.args.sheet.columns.order_count c.args.outset) c.args.progress _ c.requires.ended_value.0 refl
    b.orderly
    (rw c.in_default.is at (timings c.args.sheet.columns c.args.outset c.args.progress c.args.sheet.admitted c.requires.sets b c.load-train.result
    c.load-train.ensures
    c.time_trains_since-times.result c.time_trains_since-times.ensures))
    refl refl refl
