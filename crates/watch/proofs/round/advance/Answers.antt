-- `watch::round::advance` meets its contract: the round of the code is the next one, and a better plan is listed and written. Assumes nothing.
use Rattle.std.proofs.Common.{◌≡◌, true, length, refl, w64, SFits, to_z-of_z, arith, rules}
use Rattle.numbers.specs.DecidesLaws.{test_means}
use Rattle.model.specs.Memory.{sheet_of}
use Rattle.model.specs.Sheet.{Sheet}
use Rattle.rounds.proofs.BoundLaws.{bound_most}
use Rattle.rounds.specs.ByRound.{SearchAreas, all_areas, SearchRoom, search_room}
use Rattle.rounds.proofs.ByRoundLaws.{decides_search_room}
use Rattle.watch.proofs.AdvanceLaws.{moves_same, moves_better}
use Rattle.watch.proofs.round.advance.Goals as goal

-- the areas have room
has_room : (s : Sheet) (found : SearchAreas)
    → search_room s (length found.pairs) (length found.plan.trains) (length found.plan.times) ≡ true → SearchRoom s found
has_room s found e = test_means (decides_search_room s found) e

pub returns-in_default : goal.returns-in_default
returns-in_default c =
    let a = c.args in
    let s = sheet_of a.sheet.columns in
    let found = all_areas a.pairs.now a.train_of_order.now a.times.now in
    let fits = c.requires.fits in
    let room : SearchRoom s found = has_room s found fits.room in
    rw c.keep.ensures
    (record {
      moves = λ lent calls h.
          moves_same s a.state c.round-progress.result (rw c.resume.ensures at c.round-progress.ensures.is) lent calls found h c.in_default.is;
      within = omega (arith, fits.few_pairs, fits.few_rounds, room.list);
      as_found = λ e. refl;
    })

pub list_pair-count-requires : goal.list_pair-count-requires
list_pair-count-requires c =
    let a = c.args in
    let s = sheet_of a.sheet.columns in
    let found = all_areas a.pairs.now a.train_of_order.now a.times.now in
    let fits = c.requires.fits in
    let room : SearchRoom s found = has_room s found fits.room in
    let few = (fits.begun c.requires.ended_value).within in
    (omega (arith, fits.few_pairs, few, room.list), omega (arith, fits.few_pairs, few, bound_most s fits.admitted))

pub returns : goal.returns
returns c =
    let a = c.args in
    let s = sheet_of a.sheet.columns in
    let found = all_areas a.pairs.now a.train_of_order.now a.times.now in
    let fits = c.requires.fits in
    let room : SearchRoom s found = has_room s found fits.room in
    let few = (fits.begun c.requires.ended_value).within in
    let r = c.round-progress.result in
    let limit_fits : SFits w64 r.limit = search rules in
    let limit = to_z-of_z {w = w64} limit_fits in
    rw c.keep-2.ensures
    (record {
      moves = λ lent calls h.
          moves_better s a.state r (rw c.resume.ensures at c.round-progress.ensures.is) lent calls found h c.in-Some.timed c.in-Some.is _ _ _ _
          (rw limit at c.list_pair-count.ensures.lists) c.put_trains.ensures c.put_times.ensures c.list_pair-count.auto.pairs c.put_trains.auto.out
          c.put_times.auto.out;
      within = omega (arith, c.list_pair-count.ensures.counts.1, fits.few_pairs, few, room.list, c.list_pair-count.auto.pairs);
      as_found = λ e. absurd (omega (arith, e, c.list_pair-count.ensures.counts.0));
    })
