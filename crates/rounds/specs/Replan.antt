-- DOCUMENT 02, NO. 13: WHAT THE TWO CALLS ANSWER WHERE SOME TRAINS HAVE GONE. The rounds are those of document 01 over the whole sheet, from another outset, so
-- that arrivals and worst lateness are the model's, gone trains and orders included. That the gone trains stay as they are, that the rounds run over the
-- others, and that "a round whose z equals the gone orders' worst is the last" are laws (GoneRoundLaws.antt, LastRoundLaws.antt).
use Rattle.std.specs.Prelude.{Bool, ◌&&◌, cond, List, ℕ, ◌-◌, leb, ltb, eqb, ℤ, length}
use Rattle.numbers.specs.Counting.{at, nth, count, table}
use Rattle.model.specs.Sheet.{Sheet, places}
use Rattle.model.specs.Foreign.{trains_told}
use Rattle.model.specs.Gone.{Gone, gone_trains, gone_by, went, went_well}
use Rattle.model.specs.declared.Refusal.TheVariants.{NoSchedule, GoneWrong}
use Rattle.rounds.specs.Outset.{Outset}
use Rattle.rounds.specs.Recording.{Entry}
use Rattle.rounds.specs.Answers.{Answer, refused, Listing, list_from, choose_from}
use Rattle.rounds.specs.Areas.{PlanAreas, list_room, plan_room, tested, after_tests}

-- train i has gone
abbrev pub has_gone : Gone → ℕ → Bool
has_gone g i = leb 1 i && leb i (gone_trains g)

-- a gone train has places for its own orders only; an order that has gone keeps its train; a gone train leaves when it left, "the others leave no earlier
-- than that minute"
abbrev pub behind : Sheet → Gone → Outset
behind s g =
    record {
      capacity = λ i. cond (has_gone g i) (went s g i) (s.capacity i);
      latest = table (λ j. cond (eqb (at (gone_by s g) j) 0) s.trains (at (gone_by s g) j)) s.orders;
      since = λ i. cond (has_gone g i) (nth g.departure i) g.minute;
    }

-- "the orders left outnumber the other trains' places"
abbrev pub outnumbered : Sheet → Gone → Bool
outnumbered s g = ltb (places s.capacity s.trains - places s.capacity (gone_trains g)) (went s g 0)

-- 21, "tested after 10"; "If the orders left outnumber the other trains' places, the answer is 8."; else what the rounds give
unfoldable pub after_gone : {A : Type 0} → Sheet → Gone → Answer A → Answer A
unfolding went_well places count table trains_told
after_gone s g x = cond (went_well s g) (cond (outnumbered s g) (refused NoSchedule) x) (refused GoneWrong)

-- "by two calls as in No. 1, 11 included"
unfoldable pub relist : Sheet → Gone → Answer Listing
unfolding after_gone list_from
relist s g = after_gone s g (list_from s (behind s g))

unfoldable pub rechoose : Sheet → Gone → (wish : ℕ) → Answer Entry
unfolding after_gone choose_from
rechoose s g wish = after_gone s g (choose_from s (behind s g) wish)

-- the calls: the tests of No. 1's two calls come first, 10 by the figure of the whole sheet
unfoldable pub relist_to : Sheet → Gone → (lent : List ℤ) → Answer Listing
unfolding tested after_tests relist
relist_to s g lent = after_tests (tested s (list_room s (length lent))) (relist s g)

unfoldable pub rechoose_to : Sheet → Gone → (wish : ℕ) → (lent : PlanAreas) → Answer Entry
unfolding tested after_tests rechoose
rechoose_to s g wish lent = after_tests (tested s (plan_room s (length lent.trains) (length lent.times))) (rechoose s g wish)
