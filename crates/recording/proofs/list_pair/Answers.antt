-- `recording::list_pair` meets its contract: the pair stands at its place. Assumes nothing.
use Rattle.std.proofs.Common.{◌≡◌, refl, ◌∙◌, to_z-of_z}
use mir.Syntax.{w64}
use Rattle.numbers.specs.DecidesLaws.{decides_and, decides_lt, decides_eq, test_means, test_fails}
use Rattle.recording.specs.Recorded.{place}
use Rattle.recording.proofs.RecordingStepLaws.{place_same, place_behind, lists_more}
use Rattle.recording.proofs.list_pair.Goals as goal
use Rattle.recording.proofs.list_pair.Goals.{then-count-last, else-count-last}

pub returns-clause-lists : goal.returns-clause-lists
returns-clause-lists c =
    let a = c.args in
    let over_last = decides_and (decides_lt 0 a.count) (decides_eq a.last a.arrival) in
    let placed : c.if-count-last.count ≡ place a.count a.last a.arrival =
    elim c.if-count-last.branch [
      | then-count-last w ↦
          let h = test_means over_last w.if-count-last.true in
          w.count-is ∙ place_same a.count a.last a.arrival h.0 h.1
      | else-count-last w ↦ w.count-is ∙ place_behind a.count a.last a.arrival (test_fails over_last w.if-count-last.false)
    ] in
    let listed = to_z-of_z {w = w64} (record { sfits = c.from.type_inv }) ∙ c.from.ensures in
    rw (listed, to_z-of_z {w = w64} c.ranges.worst)
    (lists_more a.count a.last a.arrival a.worst a.pairs.now c.requires.0 c.if-count-last.count placed _ refl)
