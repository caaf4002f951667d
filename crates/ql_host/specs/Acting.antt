-- A process acts in a setting.
use Rattle.std.specs.Prelude.{◌≡◌, ◌≤◌, ℕ, suc, true, List, length, map, Some, slice_get}
use Rattle.ql_world.specs.World.{numbered}
use Rattle.ql_world.specs.Tick.{can_step, tick}
use Rattle.ql_code.specs.declared.code.Op.{Op}
use Rattle.ql_code.specs.Machine.{code_machine}
use Rattle.ql_proc.specs.declared.process.Proc.{Proc}
use Rattle.ql_proc.specs.Points.{point_of}
use Rattle.ql_tree.specs.declared.person.Person.{Person}
use Rattle.ql_tree.specs.Persons.{process_of_person}
use Rattle.ql_host.specs.World.{world_of, Acts, IsAt}
use Rattle.ql_host.specs.Room.{with_room}
use Rattle.ql_host.specs.declared.setting.Setting.{Setting}
use Rattle.ql_host.specs.declared.shared.Shared.{Shared}

module _ (s : Setting) (p : ℕ) (r : Person) where
  -- it takes a tick
  abbrev pub Takes : Shared → Proc → Shared → Proc → Type 0
  Takes old t new u = Acts s.code.now s.names.now s.limits p r old (point_of t) new (point_of u)

  -- The same where the threads of others change too, or more are made.
  abbrev pub TakesAll : Shared → List Proc → Shared → List Proc → Type 0
  TakesAll old ts new us =
      (i : ℕ) (t : Proc) → p ≡ suc i → slice_get ts i ≡ Some t → numbered old.tree.persons p ≡ Some r → length ts ≡ length old.tree.persons
      → can_step (code_machine s.code.now.instructions) s.names.now s.limits p (process_of_person r (point_of t)) (world_of old (map point_of ts)) ≡ true
      → tick (code_machine s.code.now.instructions) s.names.now s.limits (world_of old (map point_of ts)) p ≡ Some (world_of new (map point_of us))

  -- it is at an instruction that it can take
  abbrev pub StandsAt : Shared → Proc → Op → ℕ → Type 0
  StandsAt h t op at = IsAt s.code.now s.names.now s.limits p h r (point_of t) op at

-- nothing changed but room, which didn't shrink for events
abbrev pub IsKept : Shared → Proc → Shared → Proc → Type 0
IsKept old t new u = (new ≡ with_room old new) × ((u ≡ record t { stack = record t.stack { room = u.stack.room } }) × (old.history.spare ≤ new.history.spare))
