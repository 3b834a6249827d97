-- `timing::arrivals_to` meets its contract: by recursion on the train number, which falls to the first train; each call stores its own arrival
-- behind those of the trains ahead. Assumes nothing.
use Rattle.std.proofs.Common.{◌≡◌, ◌∙◌, ◌+◌, ◌-◌, ◌≤◌, arith}
use Rattle.std.proofs.Math.Nat.{mul-le-mul}
use Rattle.numbers.specs.Counting.{nth}
use Rattle.model.proofs.ArrivalLaws.{arrival_bound}
use Rattle.timing.proofs.TimingStepLaws.{ahead_is, arrivals_first, arrivals_more, arrives_behind}
use Rattle.timing.proofs.+arrivals_to.Goals as goal

pub returns-then-i-eq1 : goal.returns-then-i-eq1
returns-then-i-eq1 t c =
    let a = c.args in
    let own : c.of_train.result + c.of_train-2.result ≡ nth a.departure.now a.i + nth a.running.now a.i =
    omega (arith, c.of_train.ensures, c.of_train-2.ensures) in
    arrivals_first a.gap a.running.now a.departure.now a.i _ (omega (arith, c.if-i-eq1.true, c.requires.le_i.0)) own

pub overflow_add-arrival : goal.overflow_add-arrival
overflow_add-arrival t c =
    let a = c.args in
    let p = c.requires.le_i in
    let most = c.requires.up_to in
    let l = c.arrivals_to-arrival in
    let j = a.i - 1 in
    let few : j ≤ 32 = omega (arith, p.1) in
    omega (
      arith,
      ahead_is a.gap a.running.now a.departure.now l.result j l.ensures (λ z. omega (arith, c.if-i-eq1.false, p.0)),
      arrival_bound a.gap (nth a.running.now) (nth a.departure.now) 100001 10000 j
          (λ k x y. (most.1 (k - 1) (omega arith), most.0 (k - 1) (omega arith))),
      mul-le-mul p.2 few,
      p.2,
    )

pub returns-else-i-eq1 : goal.returns-else-i-eq1
returns-else-i-eq1 t c =
    let a = c.args in
    let p = c.requires.le_i in
    let l = c.arrivals_to-arrival in
    let own : c.of_train.result + c.of_train-2.result ≡ nth a.departure.now a.i + nth a.running.now a.i =
    omega (arith, c.of_train.ensures, c.of_train-2.ensures) in
    arrivals_more a.gap a.running.now a.departure.now l.result a.i _ (λ z. omega (arith, p.0)) (omega (arith, p.1)) l.ensures
    (c.max.ensures
    ∙ arrives_behind a.gap a.running.now a.departure.now l.result a.i _ (omega (arith, c.if-i-eq1.false, p.0)) own l.ensures)
