-- What a run has printed.
use Rattle.std.specs.Prelude.{ℕ, List}

pub record Output : Type 0 where
  pub bytes : List ℕ
  -- for how many more there is room
  pub spare : ℕ
