-- Laws of what is shown. Assumes nothing.
use Rattle.std.specs.Prelude.{◌≡◌, false, List, ℕ, ◌≤◌, take, replicate}
use Rattle.std.proofs.Common.{ap, ◌∙◌, arith}
use Rattle.std.proofs.lemmas.List.{get_or-replicate}
use Rattle.numbers.specs.Counting.{at, nth}
use Rattle.model.specs.Sheet.{Sheet}
use Rattle.rounds.specs.Recording.{last_entry}
use Rattle.rounds.specs.Rounds.{above_everything, start_from}
use Rattle.loading.proofs.BeginLaws.{orderly_none}
use Rattle.search.specs.Setting.{outset_of}
use Rattle.search.specs.Shows.{goes_on, ShowsFrom}
use Rattle.search.specs.declared.Outset as memory
use Rattle.search.specs.declared.Progress.{Progress}

-- before the first round
pub starts : (s : Sheet) (c : memory.Outset) (p : Progress) → s.orders ≤ 200 → p.train ≡ replicate 200 0 → p.latest ≡ c.latest
    → p.limit ≡ above_everything → p.last ≡ 0 → p.rounds ≡ 0 → p.ended ≡ false → let o = outset_of s.orders c in ShowsFrom s o p (start_from o)
unfolding start_from last_entry
starts s c p few train latest limit last rounds on =
    record {
      orderly = orderly_none s.orders s.trains s.release (nth c.capacity) p.latest p.train
          (λ j l. ap (λ (t : List ℕ). at t j) train ∙ get_or-replicate 200 j 0 0 (omega arith));
      stands = goes_on on rounds (ap (take s.orders) latest) limit;
      last = last;
    }
