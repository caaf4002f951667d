-- What a run has told so far.
use Rattle.std.specs.Prelude.{ℕ, List, ◌∷◌, Option}
use Rattle.ql_world.specs.declared.event.Event.{Event}
use Rattle.ql_world.specs.declared.event.Event.TheVariants.{Turn as turn}
use Rattle.ql_world.specs.declared.event.Head.{Head}

pub record History : Type 0 where
  pub head : Option Head
  -- the newest first
  pub events : List Event
  -- how many ticks were taken
  pub ticks : ℕ
  -- for how many more events there is room
  pub spare : ℕ

-- how many ticks the last turn has
abbrev pub latest : List Event → ℕ
latest (turn p n ∷ es) = n
latest es = 0

-- an event that is no turn
abbrev pub IsNoTurn : Event → Type 0
IsNoTurn (turn p n) = ⊥
IsNoTurn e = Unit {0}
