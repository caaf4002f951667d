-- A tick in which processes are made.
use Rattle.std.specs.Prelude.{◌≡◌, ◌≤◌, Bool, if◌then◌else◌, ℕ, suc, ◌-◌, true, List, ◌++◌, length, map, Option, Some, None, slice_get, slice_set}
use Rattle.ql_base.specs.declared.limits.Limits.{Limits}
use Rattle.ql_world.specs.declared.event.Mode.{Mode}
use Rattle.ql_world.specs.declared.event.Mode.TheVariants.{Call as called, Eager as eager}
use Rattle.ql_world.specs.World.{numbered}
use Rattle.ql_world.specs.Tick.{can_step, tick}
use Rattle.ql_tree.specs.declared.person.Person.{Person}
use Rattle.ql_tree.specs.Persons.{process_of_person}
use Rattle.ql_code.specs.Code.{Code}
use Rattle.ql_code.specs.declared.code.Op.{Op}
use Rattle.ql_code.specs.Machine.{Point, code_machine}
use Rattle.ql_proc.specs.declared.process.Proc.{Proc}
use Rattle.ql_proc.specs.Points.{point_of}
use Rattle.ql_host.specs.World.{world_of}
use Rattle.ql_host.specs.Acting.{StandsAt}
use Rattle.ql_host.specs.Room.{with_room}
use Rattle.ql_host.specs.declared.setting.Setting.{Setting}
use Rattle.ql_host.specs.declared.shared.Shared.{Shared}

module _ (code : Code) (names : List (List ℕ)) (limits : Limits) (p : ℕ) where
  -- Process p takes a tick, whatever the threads of the others are: its thread t becomes u, and there are more processes
  -- with these threads.
  abbrev pub ActsMaking : Person → (old : Shared) (t : Point) (new : Shared) (u : Point) (made : List Point) → Type 0
  ActsMaking r old t new u made =
      (threads : List Point) (i : ℕ) → p ≡ suc i → slice_get threads i ≡ Some t → numbered old.tree.persons p ≡ Some r → length threads ≡ length old.tree.persons
      → can_step (code_machine code.instructions) names limits p (process_of_person r t) (world_of old threads) ≡ true
      → tick (code_machine code.instructions) names limits (world_of old threads) p ≡ Some (world_of new (slice_set threads i u ++ made))

module _ (s : Setting) (p : ℕ) (r : Person) where
  abbrev pub Makes : Shared → Proc → Shared → Proc → List Proc → Type 0
  Makes old t new u made = ActsMaking s.code.now s.names.now s.limits p r old (point_of t) new (point_of u) (map point_of made)

  -- Each of these processes that has number p is at an instruction that it can take.
  abbrev pub StandsAmong : Shared → List Proc → Op → ℕ → Type 0
  StandsAmong h ts op at = (i : ℕ) (t : Proc) → p ≡ suc i → slice_get ts i ≡ Some t → StandsAt s p r h t op at

-- nothing changed but room, which didn't shrink for events
abbrev pub AreKept : Shared → List Proc → Shared → List Proc → Type 0
AreKept old ts new us = (new ≡ with_room old new) × ((map point_of us ≡ map point_of ts) × (old.history.spare ≤ new.history.spare))

-- What more children leave as it was.
pub record Grows (old new : Shared) : Type 0 where
  pub cells : new.cells ≡ old.cells
  pub procs : new.tree.limit ≡ old.tree.limit
  pub head : new.history.head ≡ old.history.head
  pub ticks : new.history.ticks ≡ old.history.ticks
  pub protects : new.protects ≡ old.protects

-- The place of a child's `join`, before the start of the next, or, of the last one, before the jump past the children.
abbrev pub join_before : (next : Option ℕ) (touched : ℕ) → ℕ
join_before (Some start) touched = start - 1
join_before None touched = touched - 2

-- what the process of process closure k is spawned for
abbrev pub mode_for : (is_eager : Bool) → ℕ → Mode
mode_for e k = if e then eager k else called k
