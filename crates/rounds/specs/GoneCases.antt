-- DOCUMENT 02, NO. 13, COMPUTED. Sheets with gone parts, and what the two calls answer; the answers were found by an independent program.
use Rattle.std.specs.Prelude.{List, [], ◌∷◌, ℕ, pos, negsuc}
use Rattle.numbers.specs.Counting.{at, nth}
use Rattle.model.specs.Sheet.{Sheet, windows}
use Rattle.model.specs.Gone.{Gone}
use Rattle.model.specs.Cases.{case_a}
use Rattle.model.specs.declared.Refusal.TheVariants.{NoSchedule, WishTooEarly, GoneWrong}
use Rattle.model.specs.declared.Row.{Row}
use Rattle.rounds.specs.Recording.{Entry}
use Rattle.rounds.specs.Answers.{Answer, refused, Listing}
use Rattle.rounds.specs.Cases.{pair, lists, laid}
use Rattle.rounds.specs.Replan.{relist, rechoose}

abbrev row : (order train : ℕ) → Row
row order train = record { order = order; train = train }

abbrev gone : (departure : List ℕ) → List Row → (minute : ℕ) → Gone
gone departure rows minute = record { departure = departure; rows = rows; minute = minute }

-- `G,1 W,0,9 T,1,1 T,1,1 T,1,1 O,A,0,0,5 O,B,5,0,1 O,C,0,0,2`; train 1 left at 2 with order A
abbrev three_orders : Sheet
three_orders =
    record {
      orders = 3;
      trains = 3;
      release = at (0 ∷ 5 ∷ 0 ∷ []);
      due = at (0 ∷ 0 ∷ 0 ∷ []);
      weight = at (5 ∷ 1 ∷ 2 ∷ []);
      capacity = nth (1 ∷ 1 ∷ 1 ∷ []);
      paths = windows (record { gap = 1; count = 1; from = nth (0 ∷ []); to = nth (9 ∷ []); running = nth (1 ∷ 1 ∷ 1 ∷ []) });
    }

-- the gone order's −3 is the worst of round 2, which is the last
abbrev three_trains : Sheet
three_trains =
    record {
      orders = 4;
      trains = 3;
      release = at (18 ∷ 19 ∷ 27 ∷ 30 ∷ []);
      due = at (29 ∷ 53 ∷ 37 ∷ 58 ∷ []);
      weight = at (1 ∷ 1 ∷ 2 ∷ 2 ∷ []);
      capacity = nth (1 ∷ 1 ∷ 2 ∷ []);
      paths = windows (record { gap = 4; count = 3; from = nth (0 ∷ 25 ∷ 45 ∷ []); to = nth (20 ∷ 40 ∷ 60 ∷ []); running = nth (8 ∷ 7 ∷ 4 ∷ []) });
    }

-- No. 5: five places for two orders; the gone train has an empty place, and behind it an empty train waits for minute 26
abbrev five_places : Sheet
five_places =
    record {
      orders = 2;
      trains = 3;
      release = at (18 ∷ 27 ∷ []);
      due = at (29 ∷ 37 ∷ []);
      weight = at (1 ∷ 2 ∷ []);
      capacity = nth (2 ∷ 1 ∷ 2 ∷ []);
      paths = windows (record { gap = 4; count = 3; from = nth (0 ∷ 25 ∷ 45 ∷ []); to = nth (20 ∷ 40 ∷ 60 ∷ []); running = nth (8 ∷ 7 ∷ 4 ∷ []) });
    }

-- `G,10 W,0,100 T,1,p T,1,p' T,2,5 O,A,0,40,3 O,B,0,20,1 O,C,0,30,2`; train 1 left at 20 with order A, and it is minute 20. Behind a short run the gap is
-- what train 2 waits for, behind a long one the arrival
abbrev behind_a_run : (p p' : ℕ) → Sheet
behind_a_run p p' =
    record {
      orders = 3;
      trains = 3;
      release = at (0 ∷ 0 ∷ 0 ∷ []);
      due = at (40 ∷ 20 ∷ 30 ∷ []);
      weight = at (3 ∷ 1 ∷ 2 ∷ []);
      capacity = nth (1 ∷ 1 ∷ 2 ∷ []);
      paths = windows (record { gap = 10; count = 1; from = nth (0 ∷ []); to = nth (100 ∷ []); running = nth (p ∷ p' ∷ 5 ∷ []) });
    }

unfoldable pub gone_listings : List (Answer Listing)
unfolding relist
gone_listings =
    relist three_orders (gone (2 ∷ []) (row 1 1 ∷ []) 3)
    ∷ relist three_orders (gone (2 ∷ []) [] 3)
    ∷ relist three_orders (gone (2 ∷ []) (row 1 1 ∷ []) 1)
    ∷ relist three_orders (gone (2 ∷ []) (row 1 1 ∷ []) 10)
    ∷ relist three_orders (gone (2 ∷ []) (row 1 1 ∷ row 1 1 ∷ []) 3)
    ∷ relist three_orders (gone (2 ∷ []) (row 2 1 ∷ []) 3)
    ∷ relist three_orders (gone (2 ∷ []) (row 1 2 ∷ []) 3)
    ∷ relist three_orders (gone (2 ∷ 3 ∷ 4 ∷ []) (row 1 1 ∷ []) 4)
    ∷ relist case_a (gone (40 ∷ []) (row 1 1 ∷ []) 120)
    ∷ relist case_a (gone [] [] 60)
    ∷ relist three_trains (gone (18 ∷ []) (row 1 1 ∷ []) 21)
    ∷ relist five_places (gone (18 ∷ []) (row 1 1 ∷ []) 26)
    ∷ relist (behind_a_run 5 20) (gone (20 ∷ []) (row 1 1 ∷ []) 20)
    ∷ relist (behind_a_run 50 5) (gone (20 ∷ []) (row 1 1 ∷ []) 20)
    ∷ []

unfoldable pub stated_gone_listings : List (Answer Listing)
stated_gone_listings =
    lists (pair 6 (pos 15) ∷ []) 1
    ∷ refused NoSchedule
    ∷ refused GoneWrong
    ∷ refused NoSchedule
    ∷ refused GoneWrong
    ∷ refused GoneWrong
    ∷ refused GoneWrong
    ∷ refused GoneWrong
    ∷ lists (pair 170 (pos 330) ∷ []) 1
    ∷ lists (pair 170 (pos 110) ∷ []) 2
    ∷ lists (pair 36 (negsuc 1) ∷ pair 38 (negsuc 2) ∷ []) 2
    ∷ lists (pair 37 (pos 0) ∷ pair 38 (negsuc 2) ∷ []) 2
    ∷ lists (pair 60 (pos 40) ∷ []) 2
    ∷ lists (pair 90 (pos 100) ∷ []) 2
    ∷ []

unfoldable pub gone_choices : List (Answer Entry)
unfolding rechoose
gone_choices =
    rechoose case_a (gone (40 ∷ []) (row 1 1 ∷ []) 120) 170
    ∷ rechoose case_a (gone [] [] 60) 170
    ∷ rechoose case_a (gone [] [] 60) 169
    ∷ rechoose three_trains (gone (18 ∷ []) (row 1 1 ∷ []) 21) 38
    ∷ rechoose five_places (gone (18 ∷ []) (row 1 1 ∷ []) 26) 37
    ∷ rechoose (behind_a_run 5 20) (gone (20 ∷ []) (row 1 1 ∷ []) 20) 60
    ∷ rechoose (behind_a_run 50 5) (gone (20 ∷ []) (row 1 1 ∷ []) 20) 90
    ∷ []

unfoldable pub stated_gone_choices : List (Answer Entry)
stated_gone_choices =
    laid (pair 170 (pos 330)) (1 ∷ 2 ∷ 2 ∷ []) (40 ∷ 150 ∷ []) (70 ∷ 170 ∷ []) (1 ∷ 2 ∷ [])
    ∷ laid (pair 170 (pos 110)) (2 ∷ 1 ∷ 2 ∷ []) (60 ∷ 150 ∷ []) (90 ∷ 170 ∷ []) (1 ∷ 2 ∷ [])
    ∷ refused WishTooEarly
    ∷ laid (pair 38 (negsuc 2)) (1 ∷ 3 ∷ 2 ∷ 3 ∷ []) (18 ∷ 27 ∷ 31 ∷ []) (26 ∷ 34 ∷ 38 ∷ []) (1 ∷ 2 ∷ 2 ∷ [])
    ∷ laid (pair 37 (pos 0)) (1 ∷ 3 ∷ []) (18 ∷ 26 ∷ 30 ∷ []) (26 ∷ 33 ∷ 37 ∷ []) (1 ∷ 2 ∷ 2 ∷ [])
    ∷ laid (pair 60 (pos 40)) (1 ∷ 3 ∷ 2 ∷ []) (20 ∷ 30 ∷ 40 ∷ []) (25 ∷ 50 ∷ 60 ∷ []) (1 ∷ 1 ∷ 1 ∷ [])
    ∷ laid (pair 90 (pos 100)) (1 ∷ 3 ∷ 2 ∷ []) (20 ∷ 30 ∷ 40 ∷ []) (70 ∷ 80 ∷ 90 ∷ []) (1 ∷ 1 ∷ 1 ∷ [])
    ∷ []
