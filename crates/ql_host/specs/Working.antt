-- Work that is given out and taken in, between tables and threads.
use Rattle.std.specs.Prelude.{◌≡◌, ◌<◌, ◌≤◌, ◌+◌, ℕ, suc, Bool, false, List, length, map, Option, Some, None, option_map}
use Rattle.ql_world.specs.declared.world.Process.{Process}
use Rattle.ql_world.specs.World.{numbered}
use Rattle.ql_tree.specs.declared.person.Person.{Person}
use Rattle.ql_tree.specs.Persons.{joined}
use Rattle.ql_code.specs.Machine.{Point}
use Rattle.ql_code.specs.LocalPath.{Window, window_of, is_next_local}
use Rattle.ql_code.specs.LocalLaws.{thread_after, worked}
use Rattle.ql_proc.specs.declared.process.Proc.{Proc}
use Rattle.ql_proc.specs.declared.window.Job.{Job}
use Rattle.ql_proc.specs.declared.window.Done.{Done}
use Rattle.ql_proc.specs.Points.{point_of}
use Rattle.ql_proc.specs.Windows.{window_in}
use Rattle.ql_host.specs.declared.setting.Setting.{Setting}
use Rattle.ql_host.specs.declared.shared.Shared.{Shared}
use Rattle.ql_host.specs.declared.work.Commit.{Commit}
use Rattle.ql_host.specs.declared.work.Commit.TheVariants.{Applied as applied, Dropped as dropped}
use Rattle.ql_host.specs.Acts.{world_in}
use Rattle.ql_host.specs.Ready.{stop}

-- the process with this number
abbrev pub process_in : Shared → List Proc → ℕ → Option (Process Point)
process_in h ts p = numbered (joined h.tree.persons (map point_of ts)) p

-- the process stands at this index, and is of this person
abbrev pub IsFound : Option (ℕ × Person) → Shared → List Proc → ℕ → Type 0
IsFound None h ts p = process_in h ts p ≡ None
IsFound (Some x) h ts p = (p ≡ suc x.0) × ((x.0 < length ts) × (numbered h.tree.persons p ≡ Some x.1))

-- whether a window has a local tick
abbrev pub is_local : Setting → Option Window → Bool
is_local s None = false
is_local s (Some a) = is_next_local s.code.now.instructions None a

-- a job for a process, on its window
pub record IsGiven (h : Shared) (ts : List Proc) (p most : ℕ) (j : Job) : Type 0 where
  pub process : j.proc ≡ p
  pub start : option_map window_of (process_in h ts p) ≡ Some (window_in j.start)
  pub copy : window_in j.start ≡ window_in j.window
  pub most_is : j.most ≡ most
  pub room : most ≤ j.window.top.stack.room

-- what was done on the window of a process can be taken in
pub record IsTakable (s : Setting) (h : Shared) (ts : List Proc) (d : Done) : Type 0 where
  pub same : option_map window_of (process_in h ts d.proc) ≡ Some (window_in d.start)
  pub within : h.history.ticks + d.steps ≤ s.limits.budget
  pub goes_on : stop s h ts ≡ None

-- it was taken in
pub record IsTaken (d : Done) (old : Shared) (ts : List Proc) (new : Shared) (us : List Proc) : Type 0 where
  pub world : (q : Process Point) → process_in old ts d.proc ≡ Some q → world_in new us ≡ worked (world_in old ts) d.proc d.steps (thread_after q (window_in d.window))
  pub long : length us ≡ length ts
  pub persons : new.tree.persons ≡ old.tree.persons
  pub cells : new.cells.limit ≡ old.cells.limit
  pub procs : new.tree.limit ≡ old.tree.limit
  pub head : new.history.head ≡ old.history.head
  pub ticks : new.history.ticks ≡ old.history.ticks + d.steps
  pub protects : new.protects ≡ old.protects
  pub room : 1 ≤ new.history.spare

abbrev pub Ends : Commit → Setting → Done → (old : Shared) → List Proc → (new : Shared) → List Proc → Type 0
Ends (applied k) s d old ts new us = (k ≡ d.steps) × (IsTakable s old ts d × IsTaken d old ts new us)
Ends dropped s d old ts new us = (IsTakable s old ts d → ⊥) × ((new ≡ old) × (us ≡ ts))
