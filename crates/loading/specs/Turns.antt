-- ONE TURN OF A TRAIN.
use Rattle.std.specs.Prelude.{◌≡◌, Bool, true, false, ◌&&◌, ◌||◌, List, ℕ, ◌≤◌, ◌<◌, ltb, leb, eqb, set}
use Rattle.numbers.specs.Counting.{count}
use Rattle.rounds.specs.Riding.{on}
use Rattle.riders.specs.Standing.{place, best, least}

-- Whether train i needs a turn: it was full and has lost an order; or one without a train may ride it and finds room, or may beat one on it. Of the train
-- are known how many ride it now and at first, and a bound below their standings; of those without a train how many they are, the last train that they
-- may ride, and a bound above their standings.
abbrev pub needed : (waiting riders places held low top challenger i : ℕ) → Bool
needed waiting riders places held low top challenger i =
    (ltb riders places && eqb held places) || ((ltb 0 waiting && leb i top) && (ltb riders places || ltb low challenger))

-- Train i has k places, and one turn makes the second trains of the first; the test says whether an order came in. Where there is room, the greatest that
-- could come comes in; else it takes the place of the least on the train, if it is above that one.
pub data Turn (n : ℕ) (release : ℕ → ℕ) (latest : List ℕ) (i k : ℕ) (train : List ℕ) : List ℕ → Bool → Type 0 where
  none_comes : count (on train i) n < k → best release latest train i n ≡ 0 → Turn n release latest i k train train false
  comes_in : count (on train i) n < k → 0 < best release latest train i n
      → Turn n release latest i k train (set train (place (best release latest train i n)) i) true
  holds_out : k ≤ count (on train i) n → best release latest train i n ≤ least release train i n → Turn n release latest i k train train false
  takes_over : k ≤ count (on train i) n → least release train i n < best release latest train i n
      → Turn n release latest i k train (set (set train (place (least release train i n)) 0) (place (best release latest train i n)) i) true
