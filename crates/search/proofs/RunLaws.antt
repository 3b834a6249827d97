-- Rounds one after another, for the loops of the callers. Assumes nothing.
use Rattle.std.specs.Prelude.{◌≡◌, true, false, [], ℕ, ◌+◌, ◌<◌}
use Rattle.std.proofs.Math.Path.{refl, subst}
use Rattle.std.proofs.Common.{sym, ap, ◌∙◌}
use Rattle.numbers.specs.DecidesLaws.{one_outcome}
use Rattle.model.specs.Sheet.{Sheet}
use Rattle.rounds.specs.Outset.{Outset}
use Rattle.rounds.specs.Rounds.{Search, going, ended, recorded_in, start_from, rounds_from, recorded_from}
use Rattle.rounds.specs.RoundsBound.{rounds_bound}
use Rattle.rounds.proofs.RoundsLaws.{one_round_more}
use Rattle.rounds.proofs.AimLaws.{Aim, rounds_of}
use Rattle.rounds.proofs.InvariantLaws.{below_bound}
use Rattle.search.specs.Shows.{Stands, goes_on, has_ended, ShowsFrom, recorded_by, MakesFrom}
use Rattle.search.specs.declared.Progress.{Progress}

module _ (s : Sheet) (o : Outset) where
  -- the search after k rounds
  abbrev after : ℕ → Search
  after k = rounds_from s o k (start_from o)

  -- ---- before the first round

  pub start_records_nothing : recorded_in (start_from o) ≡ []
  unfolding start_from
  start_records_nothing = refl

  pub nothing_recorded : (k : ℕ) → k ≡ 0 → recorded_from s o k ≡ []
  unfolding rounds_from
  nothing_recorded k e = rw e start_records_nothing

  pub start_shown : (p : Progress) → ShowsFrom s o p (start_from o) → (p.rounds ≡ 0) × ShowsFrom s o p (after p.rounds)
  unfolding rounds_from start_from
  start_shown p h = let none = go h.stands in (none, subst (λ (k : ℕ). ShowsFrom s o p (after k)) (sym none) h)
    where
      go : Stands s.orders p (start_from o) → p.rounds ≡ 0
      go (goes_on f c l y) = c

  -- ---- one round more

  -- the search after it, and what is recorded then
  pub next_shown : (p r : Progress) → ShowsFrom s o p (after p.rounds) → MakesFrom s o p r → r.rounds ≡ p.rounds + 1
      → ShowsFrom s o r (after r.rounds)
      × (recorded_from s o r.rounds ≡ recorded_by s r (recorded_from s o p.rounds))
  next_shown p r h makes one =
      let next : after r.rounds ≡ _ = ap after one ∙ one_round_more s o p.rounds (start_from o) in
      let made = makes _ h in
      (subst (ShowsFrom s o r) (sym next) made.shows, ap recorded_in next ∙ made.records)

  -- ---- the end

  pub over_means : (p : Progress) (x : Search) → ShowsFrom s o p x → p.ended ≡ true → x ≡ ended p.rounds (recorded_in x)
  over_means p x h over = go x h.stands
    where
      go : (x : Search) → Stands s.orders p x → x ≡ ended p.rounds (recorded_in x)
      go x (goes_on f c l y) = one_outcome over f
      go x (has_ended {recorded = recorded} f c) = ap (λ (k : ℕ). ended k recorded) (sym c)

-- a search that goes on has made fewer rounds than the sheet's figure
pub more_to_come : (s : Sheet) (a : Aim s) (p : Progress) → p.ended ≡ false → (k : ℕ) → ShowsFrom s a.outset p (rounds_of s a k) → k < rounds_bound s
more_to_come s a p on k h = go (rounds_of s a k) refl h.stands
  where
    go : (x : Search) → rounds_of s a k ≡ x → Stands s.orders p x → k < rounds_bound s
    go (going c latest y recorded) u (goes_on f made l v) = (below_bound s a k c latest y recorded u).1
    go (ended c recorded) u (has_ended f made) = one_outcome f on
