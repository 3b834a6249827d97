-- Two replies that are the same tell the same numbers. Assumes nothing.
use Rattle.std.proofs.Math.Path.{◌≡◌, ap}
use Rattle.std.specs.Prelude.{Bool, ℕ, ℤ, Ok}
use Rattle.model.specs.Replies.{ListReply, ChoiceReply, CheckReply, listed_as, chosen_as, checked_as}
use Rattle.model.specs.declared.Listed.{Listed}
use Rattle.model.specs.declared.PlanPair.{PlanPair}
use Rattle.model.specs.declared.Checked.{Checked}

pub same_listed : (l m : Listed) → ◌≡◌ {A = ListReply} (Ok l) (Ok m) → (l.pairs ≡ m.pairs) × (l.rounds ≡ m.rounds)
same_listed l m e = let same : l ≡ m = cc in (ap (λ (x : Listed). x.pairs) same, ap (λ (x : Listed). x.rounds) same)

pub same_chosen : (p q : PlanPair) → ◌≡◌ {A = ChoiceReply} (Ok p) (Ok q) → (p.last ≡ q.last) × (p.worst ≡ q.worst)
same_chosen p q e = let same : p ≡ q = cc in (ap (λ (x : PlanPair). x.last) same, ap (λ (x : PlanPair). x.worst) same)

pub record SameChecked (v w : Checked) : Type 0 where
  pub last : v.last ≡ w.last
  pub worst : v.worst ≡ w.worst
  pub listed : v.listed ≡ w.listed
  pub pairs : v.pairs ≡ w.pairs

pub same_checked : (v w : Checked) → ◌≡◌ {A = CheckReply} (Ok v) (Ok w) → SameChecked v w
same_checked v w e =
    let same : v ≡ w = cc in
    record {
      last = ap (λ (x : Checked). x.last) same;
      worst = ap (λ (x : Checked). x.worst) same;
      listed = ap (λ (x : Checked). x.listed) same;
      pairs = ap (λ (x : Checked). x.pairs) same;
    }
