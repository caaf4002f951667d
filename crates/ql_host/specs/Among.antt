-- A process acts among others.
use Rattle.std.specs.Prelude.{◌≡◌, ◌≤◌, ℕ, List, length, Some}
use Rattle.ql_world.specs.World.{numbered}
use Rattle.ql_code.specs.declared.code.Op.{Op}
use Rattle.ql_proc.specs.declared.process.Proc.{Proc}
use Rattle.ql_tree.specs.declared.person.Person.{Person}
use Rattle.ql_host.specs.Acting.{StandsAt}
use Rattle.ql_host.specs.Room.{with_room}
use Rattle.ql_host.specs.declared.setting.Setting.{Setting}
use Rattle.ql_host.specs.declared.shared.Shared.{Shared}

-- Process p is one of these, of which there is one for each person. It is at an instruction that it can take.
pub record StandsAmong (s : Setting) (p : ℕ) (r : Person) (h : Shared) (ts : List Proc) (op : Op) (at : ℕ) : Type 0 where
  pub thread : Proc
  pub there : numbered ts p ≡ Some thread
  pub threads : length ts ≡ length h.tree.persons
  pub stands : StandsAt s p r h thread op at

-- nothing changed but room, which didn't shrink for events
abbrev pub AreKept : Shared → List Proc → Shared → List Proc → Type 0
AreKept old ts new us = (new ≡ with_room old new) × ((us ≡ ts) × (old.history.spare ≤ new.history.spare))
