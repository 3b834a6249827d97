-- WHAT THE ROUNDS SET OUT FROM. Document 01's rounds set out from the sheet alone: who reads it may think of `ordinary s` wherever an outset stands. Another
-- outset is for the same rounds behind trains that have gone (document 02, No. 13).
use Rattle.std.specs.Prelude.{List, ℕ, replicate}
use Rattle.model.specs.Sheet.{Sheet}

pub record Outset : Type 0 where
  -- k_i, the places of train i
  pub capacity : ℕ → ℕ
  -- each order's latest train, at first
  pub latest : List ℕ
  -- train i may leave from this instant on
  pub since : ℕ → ℕ

-- the sheet alone: "Each order has a latest train, at first q."
abbrev pub ordinary : Sheet → Outset
ordinary s = record { capacity = s.capacity; latest = replicate s.orders s.trains; since = λ i. 0 }
