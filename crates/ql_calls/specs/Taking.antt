-- How a call is taken from a queue.
use Rattle.std.specs.Prelude.{ℕ, List, [], ◌∷◌, Option, Some, None}
use Rattle.ql_world.specs.World.{Call, ProcessClosure}

-- the number of the oldest call
abbrev pub oldest : List Call → Option ℕ
oldest [] = None
oldest (c ∷ cs) = Some c.number

module _ {K : Type 0} where
  -- of a closure's queue
  abbrev pub oldest_at : Option (ProcessClosure K) → Option ℕ
  oldest_at None = None
  oldest_at (Some s) = oldest s.queue

  abbrev pub taken : ProcessClosure K → List Call → ProcessClosure K
  taken s [] = s
  taken s (c ∷ cs) = record s { queue = cs; current = Some c }

  -- The oldest call is in progress, if there is one.
  abbrev pub after_take : ProcessClosure K → ProcessClosure K
  after_take s = taken s s.queue
