-- WHERE PAIRS ARE LISTED THE WISH IS FOR THE LAST LISTED ARRIVAL. Assumes nothing.
use Rattle.std.specs.Prelude.{◌≡◌, refl, List, [], ◌∷◌, ℕ, suc, ◌-◌, ◌*◌, ◌≤◌, ℤ, pos, length, get_or, drop}
use Rattle.std.proofs.Common.{sym, ◌∙◌, arith, length-append}
use Rattle.std.proofs.Math.Path.{ap}
use Rattle.numbers.specs.DecidesLaws.{decides_le, cond_yes}
use Rattle.numbers.specs.Over.{over}
use Rattle.numbers.specs.OverLaws.{over_at}
use Rattle.model.specs.Sheet.{Sheet}
use Rattle.model.specs.Limits.{last_arrival, numbers_a_pair}
use Rattle.model.specs.Lateness.{Pair}
use Rattle.rounds.specs.Answers.{last_arrival_in}
use Rattle.rounds.specs.Areas.{pair_numbers}
use Rattle.rounds.proofs.AreaLaws.{pair_numbers_length}
use Rattle.rounds.proofs.AimLaws.{whole}
use Rattle.rounds.proofs.AnswerLaws.{listed_so}
use Rattle.rounds.proofs.ListLaws.{last_arrival_at}
use Rattle.rounds.proofs.SizeLaws.{list_sizes}
use Rattle.planner.specs.InAreas.{pairs_in}
use Rattle.areas.specs.Wish.{arrival_of, ForLast}
use Rattle.desk.proofs.ListedLaws.{HasListed, pairs_listed}

last_number : (ps : List Pair) → 1 ≤ length ps → get_or (pair_numbers ps) (numbers_a_pair * (length ps - 1)) (pos 0) ≡ pos (last_arrival_in ps)
unfolding pair_numbers last_arrival_in
last_number [] l = absurd (omega arith)
last_number (p ∷ []) l = refl
last_number (p ∷ p₁ ∷ ps) l =
    let e : numbers_a_pair * (length (p ∷ p₁ ∷ ps) - 1) ≡ suc (suc (numbers_a_pair * (length (p₁ ∷ ps) - 1))) = omega arith in
    rw e (last_number (p₁ ∷ ps) (omega arith))

-- of these pairs at the front of the area
module _ (ps : List Pair) (some : 1 ≤ length ps) (within_range : last_arrival_in ps ≤ last_arrival) (count : ℕ) (many : count ≡ length ps)
    (pairs found : List ℤ) (area : pairs ≡ over (pair_numbers ps) found) where
  two : length (pair_numbers ps) ≡ numbers_a_pair * length ps
  two = pair_numbers_length ps

  so_many : numbers_a_pair * count ≤ length pairs
  so_many = rw area (omega (arith, many, two, length-append (pair_numbers ps) (drop (length (pair_numbers ps)) found)))

  read : get_or pairs (numbers_a_pair * (count - 1)) (pos 0) ≡ pos (last_arrival_in ps)
  read =
      let place = numbers_a_pair * (length ps - 1) in
      rw (area, many) (over_at (pair_numbers ps) found (pos 0) place (omega (arith, some, two)) ∙ last_number ps some)

  last_read : (wish : ℕ) → ForLast count pairs wish → wish ≡ last_arrival_in ps
  unfolding arrival_of
  last_read wish w =
      w (omega (arith, some, many)) so_many
      ∙ ap arrival_of read
      ∙ cond_yes (decides_le (last_arrival_in ps) last_arrival) within_range (last_arrival_in ps) 0

module _ (s : Sheet) (count rounds : ℕ) (pairs found : List ℤ) (h : HasListed s count rounds pairs found) where
  pub wished_last : (wish : ℕ) → ForLast count pairs wish → wish ≡ last_arrival_in (pairs_in count pairs)
  wished_last wish w =
      let ps = h.listing.pairs in
      let some = (listed_so s (whole s h.admitted) h.is).not_empty in
      let small = ((list_sizes s h.admitted h.is).pairs_small (length ps - 1) (omega (arith, some))).last in
      let within_range : last_arrival_in ps ≤ last_arrival = rw (← (last_arrival_at ps some)) small in
      last_read ps some within_range count h.many pairs found h.area wish w ∙ ap last_arrival_in (sym (pairs_listed s count rounds pairs found h))
