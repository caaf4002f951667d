-- Room that is taken before a tick changes anything.
use Rattle.std.specs.Prelude.{◌≤◌}
use Rattle.ql_proc.specs.declared.process.Proc.{Proc}
use Rattle.ql_host.specs.declared.room.Room.{Room}
use Rattle.ql_host.specs.declared.shared.Shared.{Shared}

-- the first with the room of the second
abbrev pub with_room : Shared → Shared → Shared
with_room old new = record old {
  cells = record old.cells { spare = new.cells.spare };
  futures = record old.futures { spare = new.futures.spare };
  tree = record old.tree { spare = new.tree.spare };
  calls = record old.calls { spare = new.calls.spare };
  output = record old.output { spare = new.output.spare };
  history = record old.history { spare = new.history.spare };
}

pub record HasRoom (room : Room) (h : Shared) (q : Proc) : Type 0 where
  pub cells : room.cells ≤ h.cells.spare
  pub futures : room.futures ≤ h.futures.spare
  pub tree : room.tree ≤ h.tree.spare
  pub events : room.events ≤ h.history.spare
  pub stack : room.stack ≤ q.stack.room
