-- What a host knows of itself where a process takes a tick.
use Rattle.std.specs.Prelude.{◌≡◌, ◌<◌, ◌≤◌, ℕ, suc, Bool, true, false, List, ◌∷◌, length, map, Some, is_some, slice_get}
use Rattle.ql_world.specs.World.{World, Call, ProcessClosure, numbered}
use Rattle.ql_world.specs.declared.world.Process.{Process}
use Rattle.ql_world.specs.Tick.{can_step, tick}
use Rattle.ql_tree.specs.declared.person.Person.{Person}
use Rattle.ql_tree.specs.Persons.{process_of_person, joined}
use Rattle.ql_code.specs.declared.code.Op.{Op}
use Rattle.ql_code.specs.declared.code.Op.TheVariants.{Qlet as qlet, Qlambda as qlambda, Exit as exit, Throw as throw, End as end}
use Rattle.ql_code.specs.Machine.{Point, Entry, code_machine}
use Rattle.ql_code.specs.Standing.{IsAsked}
use Rattle.ql_code.specs.Operands.{HasOperands}
use Rattle.ql_proc.specs.declared.process.Proc.{Proc}
use Rattle.ql_proc.specs.Points.{point_of}
use Rattle.ql_host.specs.declared.setting.Setting.{Setting}
use Rattle.ql_host.specs.declared.shared.Shared.{Shared}
use Rattle.ql_host.specs.World.{world_of, made_in, IsFit}

-- the world of tables and of processes
abbrev pub world_in : Shared → List Proc → World Point Entry
world_in h ts = world_of h (map point_of ts)

-- A process can step, asks for what there is, and has the operands of its instruction.
pub record IsAble (s : Setting) (p : ℕ) (h : Shared) (ts : List Proc) (q : Process Point) : Type 0 where
  pub can : can_step (code_machine s.code.now.instructions) s.names.now s.limits p q (world_in h ts) ≡ true
  pub asked : IsAsked (made_in h) q.kind ((code_machine s.code.now.instructions).want q.thread)
  pub operands : HasOperands s.code.now q.thread

-- A call that is next in a queue has as many arguments as its closure has parameters.
abbrev pub AreCounted : Shared → Type 0
AreCounted h = (k : ℕ) (s : ProcessClosure Entry) (c : Call) (later : List Call) → numbered h.calls.servers k ≡ Some s → s.queue ≡ c ∷ later → length c.arguments ≡ s.body.count

-- process p is there and can step
pub record CanAct (s : Setting) (p : ℕ) (h : Shared) (ts : List Proc) : Type 0 where
  pub fit : IsFit s.names.now s.limits h
  pub counted : AreCounted h
  pub long : length ts ≡ length h.tree.persons
  pub there : is_some (numbered (joined h.tree.persons (map point_of ts)) p) ≡ true
  pub able : (q : Process Point) → numbered (joined h.tree.persons (map point_of ts)) p ≡ Some q → IsAble s p h ts q

-- The process at this index, whose number is p, is of this person and can step.
pub record IsTurn (s : Setting) (p i : ℕ) (r : Person) (h : Shared) (ts : List Proc) : Type 0 where
  pub fit : IsFit s.names.now s.limits h
  pub counted : AreCounted h
  pub long : length ts ≡ length h.tree.persons
  pub number : p ≡ suc i
  pub within : i < length ts
  pub person : numbered h.tree.persons p ≡ Some r
  pub able : (t : Proc) → slice_get ts i ≡ Some t → IsAble s p h ts (process_of_person r (point_of t))

-- an instruction that makes processes, or may change the threads of others
abbrev pub changes_others : Op → Bool
changes_others (qlet starts t b) = true
changes_others (qlambda n mask is l) = true
changes_others exit = true
changes_others throw = true
changes_others end = true
changes_others op = false

-- its tick
abbrev pub Ticks : Setting → ℕ → Shared → List Proc → Shared → List Proc → Type 0
Ticks s p old ts new us = tick (code_machine s.code.now.instructions) s.names.now s.limits (world_in old ts) p ≡ Some (world_in new us)

-- nothing changed but room
pub record IsLeft (old : Shared) (ts : List Proc) (new : Shared) (us : List Proc) : Type 0 where
  pub world : world_in new us ≡ world_in old ts
  pub long : length us ≡ length ts
  pub persons : new.tree.persons ≡ old.tree.persons
  pub cells : new.cells.limit ≡ old.cells.limit
  pub procs : new.tree.limit ≡ old.tree.limit
  pub head : new.history.head ≡ old.history.head
  pub ticks : new.history.ticks ≡ old.history.ticks
  pub protects : new.protects ≡ old.protects
  pub room : old.history.spare ≤ new.history.spare
