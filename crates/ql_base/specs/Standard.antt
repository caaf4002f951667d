-- Ends over the readers and writers of the standard library.
use Rattle.std.specs.Prelude.{ℕ, List, Option}

-- what such an end is between calls
pub record StdState : Type 0 where
  -- the bytes that the reader has left or the writer holds, where it tells them
  pub inner : Option (List ℕ)
  -- how often the end has failed
  pub faults : ℕ
