-- Windows, as the machine has them.
use Rattle.std.specs.Prelude.{Bool, if◌then◌else◌}
use Rattle.ql_world.specs.declared.world.Aim.{Aim}
use Rattle.ql_code.specs.declared.mark.State.{State}
use Rattle.ql_code.specs.declared.mark.State.TheVariants.{Over as over}
use Rattle.ql_code.specs.LocalPath.{Window, topmost}
use Rattle.ql_proc.specs.declared.process.Proc.{Proc}
use Rattle.ql_proc.specs.declared.window.Window as declared

-- what a window is for the machine
abbrev pub window_in : declared.Window → Window
window_in a = record { place = a.top.place; aim = a.aim; state = a.top.state; items = a.top.stack.items }

-- how a process stands to its code
abbrev pub state_of : Proc → (ended : Bool) → State
state_of p ended = if ended then over else p.state

-- the window of a process with this aim
abbrev pub window_on : Proc → Aim → (ended : Bool) → Window
window_on p aim ended = record { place = p.place; aim = aim; state = state_of p ended; items = topmost 64 p.stack.items }
