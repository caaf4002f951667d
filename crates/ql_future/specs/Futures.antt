-- The futures of a run.
use Rattle.std.specs.Prelude.{ℕ, ◌-◌, min, List}
use Rattle.ql_world.specs.declared.world.FutState.{FutState}

-- their states, and for how many more there is room
pub record Futures : Type 0 where
  pub states : List FutState
  pub spare : ℕ

-- numbers have 32 bits
abbrev pub most_futures : ℕ
most_futures = 4294967295

-- for how many more there are both memory and numbers
abbrev pub spare_of : (capacity length : ℕ) → ℕ
spare_of capacity length = min capacity most_futures - length
