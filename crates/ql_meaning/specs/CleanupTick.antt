-- What a process does that is to end: it only cleans up.
use Rattle.std.specs.Prelude.{◌≡◌, ◌⊎◌, Bool, true, false, length, Option, Some, None}
use Rattle.ql_world.specs.World.{World}
use Rattle.ql_world.specs.declared.world.Process.{Process}
use Rattle.ql_world.specs.Machine.{unwound, ends, Machine}
use Rattle.ql_world.specs.Idle.{in_cleanup}
use Rattle.ql_world.specs.Row.{Row, Send, Take, Reply, Begin, Unwind, End, row_of}
use Rattle.ql_meaning.specs.Control.{Thread, Closure, unwinding}

-- A cleanup takes each row but these.
abbrev pub is_of_cleanup : Option Row → Bool
is_of_cleanup None = false
is_of_cleanup (Some Send) = false
is_of_cleanup (Some Take) = false
is_of_cleanup (Some Reply) = false
is_of_cleanup (Some End) = false
is_of_cleanup (Some row) = true

module _ (m : Machine Thread Closure) (q : Process Thread) where
  -- It runs no cleanup and unwinds. It begins a cleanup, leaves a catch behind, or comes to its end.
  pub record OnlyUnwinds : Type 0 where
    pub no_cleanup : in_cleanup (m.cleanups q.thread) ≡ false
    pub unwinds : q.thread.control ≡ unwinding
    pub row : (row_of m q ≡ Some Begin) ⊎ ((row_of m q ≡ Some Unwind) ⊎ (m.want q.thread ≡ ends unwound))

  -- A cleanup runs. It makes no process and calls no process closure, and neither serves calls nor comes to its end.
  pub record OnlyCleans (old new : World Thread Closure) : Type 0 where
    pub a_cleanup : in_cleanup (m.cleanups q.thread) ≡ true
    pub row : is_of_cleanup (row_of m q) ≡ true
    pub no_process : length new.procs ≡ length old.procs

  -- the tick of this process from the one world to the other
  abbrev pub CleanupTick : World Thread Closure → World Thread Closure → Type 0
  CleanupTick old new = OnlyUnwinds ⊎ OnlyCleans old new
