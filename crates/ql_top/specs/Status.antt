-- What a status says of a run, and its exit code.
use Rattle.std.specs.Prelude.{ℕ}
use Rattle.ql_base.specs.declared.numbers.Pid.{Pid}
use Rattle.ql_world.specs.declared.event.Stop.{Stop}
use Rattle.ql_world.specs.declared.event.Stop.TheVariants as stops
use Rattle.ql_top.specs.declared.status.Status.{Status}
use Rattle.ql_top.specs.declared.status.Status.TheVariants.{Done, Refused, Words, Fault, Budget, Deadlock, Limit, NoMemory, ReadFault, WriteFault, Differs}

abbrev pub pid : ℕ → Pid
pid p = record { 0 = p }

-- the status of the same name
abbrev pub status_of : Stop → Status
status_of stops.Done = Done
status_of (stops.Fault kind p at) = Fault kind (pid p) at
status_of (stops.Limit kind) = Limit kind
status_of stops.Deadlock = Deadlock
status_of stops.Budget = Budget

abbrev pub code_of : Status → ℕ
code_of Done = 0
code_of (Refused kind at) = 1
code_of Words = 2
code_of (Fault kind p at) = 3
code_of Budget = 4
code_of Deadlock = 5
code_of (Limit kind) = 6
code_of NoMemory = 7
code_of ReadFault = 8
code_of WriteFault = 9
code_of (Differs line) = 10
