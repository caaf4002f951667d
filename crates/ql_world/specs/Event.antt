-- What is told of a run: its events, its journal, and why it stopped.
use Rattle.std.specs.Prelude.{ℕ, ◌+◌, ◌==◌, if◌then◌else◌, List, [], ◌∷◌, ◌++◌, map, replicate, Option, None}
pub use Rattle.ql_world.specs.declared.event.Stop.{Stop}
pub use Rattle.ql_world.specs.declared.event.Stop.TheVariants.{Done as done, Fault as fault, Limit as limit, Deadlock as deadlock, Budget as budget}
pub use Rattle.ql_world.specs.declared.event.Mode.{Mode}
pub use Rattle.ql_world.specs.declared.event.Mode.TheVariants.{Let as binding, Call as called, Eager as eager}
pub use Rattle.ql_world.specs.declared.event.Event.{Event}
pub use Rattle.ql_world.specs.declared.event.Event.TheVariants.{Turn as turn, Spawn as spawn, Opened as opened, Exit as exit, Throw as throw, Land as land, Kill as kill, Protect as protect, Begin as begin, Finish as finish, Send as send, Take as take, Reply as reply, EndOk as end_ok, EndKilled as end_killed, Stopped as stopped}
pub use Rattle.ql_world.specs.declared.event.Entry.{Entry}
pub use Rattle.ql_world.specs.declared.event.Entry.TheVariants.{Tick as tick, Other as other}
pub use Rattle.ql_world.specs.declared.event.Head.{Head}

-- with no head it is of version 1
pub record Journal : Type 0 where
  pub head : Option Head
  pub events : List Event

-- One more tick of a process, in events of which the newest stands first: a turn of its own goes on, else a new one
-- begins.
abbrev pub with_tick : ℕ → List Event → List Event
with_tick p (turn q n ∷ es) = if p == q then turn q (n + 1) ∷ es else turn p 1 ∷ (turn q n ∷ es)
with_tick p es = turn p 1 ∷ es

abbrev pub entry_of : Event → List Entry
entry_of (turn p n) = replicate n (tick p)
entry_of e = other e ∷ []

-- the events with each turn as so many ticks
abbrev pub entries : List Event → List Entry
entries [] = []
entries (e ∷ es) = entry_of e ++ entries es

-- the schedule that events spell: one process number for each tick
abbrev pub turns : List Event → List ℕ
turns [] = []
turns (turn p n ∷ es) = replicate n p ++ turns es
turns (e ∷ es) = turns es

-- an event without its text
abbrev pub without_text : Event → Event
without_text (reply p k n text) = reply p k n None
without_text (end_ok p text) = end_ok p None
without_text e = e

-- the journal in version 1
abbrev pub plain : Journal → Journal
plain j = record { head = None; events = map without_text j.events }
