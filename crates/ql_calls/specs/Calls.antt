-- The process closures of a run.
use Rattle.std.specs.Prelude.{ℕ, Bool, false, List, [], None}
use Rattle.ql_world.specs.declared.world.Closure.{Closure}
use Rattle.ql_world.specs.World.{ProcessClosure}

pub record Calls : Type 0 where
  -- process closure 1 is the first
  pub servers : List (ProcessClosure Closure)
  -- for how many more there is room
  pub spare : ℕ

-- a new one, to which no call was sent
abbrev pub new_server : (process : ℕ) → Closure → (eager : Bool) → (turn : List ℕ) → ProcessClosure Closure
new_server process body eager turn = record { process = process; body = body; eager = eager; sent = 0; queue = []; current = None; turn = turn; dead = false }
