-- What a process waits for, and whether it can step.
use Rattle.std.specs.Prelude.{ℕ, Bool, false, not, ◌&&◌, List, map, Option, Some, None}
use Rattle.ql_world.specs.World.{World, numbered}
use Rattle.ql_world.specs.declared.world.Process.{Process}
use Rattle.ql_world.specs.Machine.{Want, awaits, takes_call, replies, exits, leaves, ends, last_form, rests, Machine}
use Rattle.ql_world.specs.Tick as ticks
use Rattle.ql_world.specs.Tick.{has_queued, may_reply, landing}
use Rattle.ql_world.specs.declared.event.Stop.{Stop}
use Rattle.ql_world.specs.Run.{is_in, those_from, ready_ones, stop_of}
use Rattle.ql_code.specs.Machine.{Point, Entry, code_machine}
use Rattle.ql_proc.specs.declared.process.Proc.{Proc}
use Rattle.ql_proc.specs.Points.{point_of}
use Rattle.ql_host.specs.declared.setting.Setting.{Setting}
use Rattle.ql_host.specs.declared.shared.Shared.{Shared}
use Rattle.ql_host.specs.World.{world_of}
pub use Rattle.ql_host.specs.declared.waits.Waits.{Waits}
pub use Rattle.ql_host.specs.declared.waits.Waits.TheVariants.{Never as never, Nothing as for_nothing, Future as for_future, Call as for_call, Reply as to_reply, Exit as to_exit, Leave as to_leave, Last as to_end}

abbrev pub waits_of : Want → Waits
waits_of (awaits f at) = for_future f
waits_of takes_call = for_call
waits_of (replies w) = to_reply
waits_of (exits c) = to_exit c
waits_of (leaves c) = to_leave c
waits_of (ends last_form) = to_end
waits_of rests = never
waits_of want = for_nothing

module _ (s : Setting) where
  abbrev pub machine : Machine Point Entry
  machine = code_machine s.code.now.instructions

  -- whether a process can step, if it is there
  abbrev pub steps_in : World Point Entry → ℕ → Option (Process Point) → Bool
  steps_in w p None = false
  steps_in w p (Some q) = ticks.can_step machine s.names.now s.limits p q w

  -- whether a process is at home and can step
  abbrev pub is_free : World Point Entry → (away : List ℕ) → ℕ → Process Point → Bool
  is_free w away p q = ticks.can_step machine s.names.now s.limits p q w && not (is_in p away)

  -- the same, if it is there
  abbrev pub free_in : World Point Entry → (away : List ℕ) → ℕ → Option (Process Point) → Bool
  free_in w away p None = false
  free_in w away p (Some q) = is_free w away p q

  module _ (h : Shared) (procs : List Proc) where
    abbrev pub world : World Point Entry
    world = world_of h (map point_of procs)

    abbrev pub steps : ℕ → Bool
    steps p = steps_in world p (numbered world.procs p)

    -- the processes that can step, rising
    abbrev pub those_ready : List ℕ
    those_ready = ready_ones machine s.names.now s.limits world

    -- those of them that are at home
    abbrev pub those_free : (away : List ℕ) → List ℕ
    those_free away = those_from (is_free world away) 1 world.procs

    -- why the run stops, if it does
    abbrev pub stop : Option Stop
    stop = stop_of machine s.names.now s.limits world
