-- `loading::take_turn` meets its contract: its four ends are the four cases of a turn. Assumes nothing.
use Rattle.std.proofs.Common.{◌≡◌, sym, ap, ◌∙◌, List, ℕ, ◌≤◌, ◌<◌, ◌%◌, arith, set, get_or-set_other}
use Rattle.numbers.specs.Counting.{at, count}
use Rattle.rounds.specs.Riding.{on}
use Rattle.riders.specs.Standing.{place, best, least}
use Rattle.riders.specs.Riders.{Riding}
use Rattle.loading.specs.Turns.{none_comes, comes_in, holds_out, takes_over}
use Rattle.loading.proofs.TurnLaws.{Comer, comer, Leaver, leaver}
use Rattle.loading.proofs.take_turn.Goals as goal

-- where the greatest who could come is found
module _ {n : ℕ} {release train riders : List ℕ} (r : Riding n release train riders) (latest : List ℕ) {i : ℕ} (qi : i ≤ 32) {outside : ℕ}
    (found : outside ≡ best (at release) latest train i n) where
  rides : at riders i ≡ count (on train i) n
  rides = r.counts.counted i qi

  -- its place, and that it is an order's
  module _ (some : 0 < outside) where
    incomer : Comer n (at release) latest r.few i train
    incomer = comer n (at release) latest r.few i train (omega (arith, found))

    is_place : 1 ≤ outside % 256
    is_place = let c = incomer in omega (arith, found, c.is, c.among, r.few)

    its_place : place outside ≡ place (best (at release) latest train i n)
    its_place = ap place found

    asked_in : {j : ℕ} → j ≡ place outside → (n ≤ 200) × (j < n) × (i ≤ 32) × (at train j ≤ 32)
    asked_in e =
        let c = incomer in
        rw (e ∙ its_place) (r.few, c.among, qi, omega (arith, c.could_come.0, qi))

    asked_from : {j : ℕ} → j ≡ place outside → ¬ (at train j ≡ i)
    asked_from e = let c = incomer in rw (e ∙ its_place) (λ u. omega (arith, c.could_come.0))

  -- where the train is full, and the greatest who could come is above the least on it
  module _ (pi : 1 ≤ i) (outside_low : outside < 4294967296) {inside : ℕ} (lowest : inside ≡ least (at release) train i n) (beats : inside < outside) where
    leaving : Leaver n (at release) latest r.few i train
    leaving = leaver n (at release) latest r.few i train (omega (arith, lowest, beats, outside_low))

    is_place_too : 1 ≤ inside % 256
    is_place_too = let l = leaving in omega (arith, lowest, l.is, l.among, r.few)

    its_place_too : place inside ≡ place (least (at release) train i n)
    its_place_too = ap place lowest

    asked_out : {j : ℕ} → j ≡ place inside → (n ≤ 200) × (j < n) × (0 ≤ 32) × (at train j ≤ 32)
    asked_out e =
        let l = leaving in
        rw (e ∙ its_place_too) (r.few, l.among, omega arith, omega (arith, l.rides, qi))

    asked_off : {j : ℕ} → j ≡ place inside → ¬ (at train j ≡ 0)
    asked_off e = let l = leaving in rw (e ∙ its_place_too) (λ u. omega (arith, l.rides, pi))

    -- then the other comes in: its train is as before
    stayed : {j : ℕ} {left : List ℕ} → j ≡ place outside → left ≡ set train (place inside) 0 → (at left j ≡ at train j) × (j < n) × (at train j < i)
    stayed {j} e is =
        let some : 0 < outside = omega (arith, beats) in
        let d = incomer some in
        let l = leaving in
        let z : j ≡ place (best (at release) latest train i n) = e ∙ its_place some in
        let apart : ¬ (j ≡ place inside) = λ u. omega (arith, d.could_come.0, l.rides, ap (at train) (sym z ∙ u ∙ its_place_too)) in
        (ap (λ (t : List ℕ). at t j) is ∙ get_or-set_other train (place inside) j 0 0 apart, rw z d.among, rw z d.could_come.0)

pub returns-then-best-eq0-clause-turns : goal.returns-then-best-eq0-clause-turns
returns-then-best-eq0-clause-turns c =
    none_comes (omega (arith, rides c.requires.0 c.args.latest.now c.requires.2 c.greatest_outside-best.ensures, c.if-riders-i.true))
    (omega (arith, c.greatest_outside-best.ensures, c.if-best-eq0.true))

pub place_of-requires : goal.place_of-requires
place_of-requires c =
    is_place c.requires.0 c.args.latest.now c.requires.2 c.greatest_outside-best.ensures (omega (arith, c.if-best-eq0.false))

pub move_order-requires-clause-n_le_most : goal.move_order-requires-clause-n_le_most
move_order-requires-clause-n_le_most c =
    asked_in c.requires.0 c.args.latest.now c.requires.2 c.greatest_outside-best.ensures (omega (arith, c.if-best-eq0.false))
    c.place_of.ensures

pub move_order-requires-clause-not_at : goal.move_order-requires-clause-not_at
move_order-requires-clause-not_at c = (
  asked_from c.requires.0 c.args.latest.now c.requires.2 c.greatest_outside-best.ensures (omega (arith, c.if-best-eq0.false))
      c.place_of.ensures,
  c.requires.0.counts,
)

pub returns-then-riders-i-clause-turns : goal.returns-then-riders-i-clause-turns
returns-then-riders-i-clause-turns c =
    let some : 0 < c.greatest_outside-best.result = omega (arith, c.if-best-eq0.false) in
    let z = c.place_of.ensures ∙ its_place c.requires.0 c.args.latest.now c.requires.2 c.greatest_outside-best.ensures some in
    rw (c.move_order.ensures.moves, z)
    (comes_in (omega (arith, rides c.requires.0 c.args.latest.now c.requires.2 c.greatest_outside-best.ensures, c.if-riders-i.true))
    (omega (arith, c.greatest_outside-best.ensures, some)))

pub returns-then-best-least-clause-turns : goal.returns-then-best-least-clause-turns
returns-then-best-least-clause-turns c =
    holds_out (omega (arith, rides c.requires.0 c.args.latest.now c.requires.2 c.greatest_outside-best.ensures, c.if-riders-i.false))
    (omega (arith, c.greatest_outside-best.ensures, c.least_on-least.ensures, c.if-best-least.true))

pub place_of-requires-2 : goal.place_of-requires-2
place_of-requires-2 c =
    is_place_too c.requires.0 c.args.latest.now c.requires.2 c.greatest_outside-best.ensures c.requires.1
    c.greatest_outside-best.type_inv c.least_on-least.ensures (omega (arith, c.if-best-least.false))

pub move_order-requires-2-clause-n_le_most : goal.move_order-requires-2-clause-n_le_most
move_order-requires-2-clause-n_le_most c =
    asked_out c.requires.0 c.args.latest.now c.requires.2 c.greatest_outside-best.ensures c.requires.1
    c.greatest_outside-best.type_inv c.least_on-least.ensures (omega (arith, c.if-best-least.false)) c.place_of-2.ensures

pub move_order-requires-2-clause-not_at : goal.move_order-requires-2-clause-not_at
move_order-requires-2-clause-not_at c = (
  asked_off c.requires.0 c.args.latest.now c.requires.2 c.greatest_outside-best.ensures c.requires.1
      c.greatest_outside-best.type_inv c.least_on-least.ensures (omega (arith, c.if-best-least.false)) c.place_of-2.ensures,
  c.requires.0.counts,
)

pub place_of-requires-3 : goal.place_of-requires-3
place_of-requires-3 c =
    is_place c.requires.0 c.args.latest.now c.requires.2 c.greatest_outside-best.ensures (omega (arith, c.if-best-least.false))

pub move_order-requires-3-clause-n_le_most : goal.move_order-requires-3-clause-n_le_most
move_order-requires-3-clause-n_le_most c =
    let (same, among, low) = stayed c.requires.0 c.args.latest.now c.requires.2 c.greatest_outside-best.ensures c.requires.1
    c.greatest_outside-best.type_inv c.least_on-least.ensures (omega (arith, c.if-best-least.false)) c.place_of-3.ensures
    (c.move_order-2.ensures.moves ∙ ap (λ (j : ℕ). set c.args.train.now j 0) c.place_of-2.ensures) in
    (c.requires.0.few, among, c.requires.2, omega (arith, same, low, c.requires.2))

pub move_order-requires-3-clause-not_at : goal.move_order-requires-3-clause-not_at
move_order-requires-3-clause-not_at c =
    let (same, among, low) = stayed c.requires.0 c.args.latest.now c.requires.2 c.greatest_outside-best.ensures c.requires.1
    c.greatest_outside-best.type_inv c.least_on-least.ensures (omega (arith, c.if-best-least.false)) c.place_of-3.ensures
    (c.move_order-2.ensures.moves ∙ ap (λ (j : ℕ). set c.args.train.now j 0) c.place_of-2.ensures) in
    (λ u. omega (arith, same, low, u), c.move_order-2.ensures.counts)

pub returns-clause-turns : goal.returns-clause-turns
returns-clause-turns c =
    let beats : c.least_on-least.result < c.greatest_outside-best.result = omega (arith, c.if-best-least.false) in
    let some : 0 < c.greatest_outside-best.result = omega (arith, beats) in
    let z = c.place_of-3.ensures ∙ its_place c.requires.0 c.args.latest.now c.requires.2 c.greatest_outside-best.ensures some in
    let w = c.place_of-2.ensures ∙ its_place_too c.requires.0 c.args.latest.now c.requires.2 c.greatest_outside-best.ensures c.requires.1
    c.greatest_outside-best.type_inv c.least_on-least.ensures beats in
    rw (c.move_order-3.ensures.moves, c.move_order-2.ensures.moves, z, w)
    (takes_over (omega (arith, rides c.requires.0 c.args.latest.now c.requires.2 c.greatest_outside-best.ensures, c.if-riders-i.false))
    (omega (arith, beats, c.greatest_outside-best.ensures, c.least_on-least.ensures)))
