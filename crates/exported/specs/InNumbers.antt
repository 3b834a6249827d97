-- WHAT AN EXPORTED CALL PROMISES: there is a reply that meets the call's own contract, and what is returned is that reply in numbers.
use Rattle.std.specs.Prelude.{◌≡◌}

pub record InNumbers {Reply Numbers : Type 0} (numbers : Reply → Numbers) (Call : Reply → Type 0) (r : Numbers) : Type 0 where
  pub reply : Reply
  pub call : Call reply
  pub is : r ≡ numbers reply
