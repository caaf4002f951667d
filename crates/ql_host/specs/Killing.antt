-- Kills, seen from the tables.
use Rattle.std.specs.Prelude.{◌≡◌, ℕ, Bool, false, List, length, Option, Some, None}
use Rattle.ql_world.specs.declared.world.Catch.{Catch}
use Rattle.ql_world.specs.declared.world.Kind.{Kind}
use Rattle.ql_world.specs.declared.world.Aim.{Aim}
use Rattle.ql_world.specs.declared.world.Aim.TheVariants.{Die as die}
use Rattle.ql_world.specs.declared.event.Event.TheVariants.{Kill as kill}
use Rattle.ql_world.specs.World.{World, change_numbered, with_event, with_thread}
use Rattle.ql_world.specs.Machine.{Machine}
use Rattle.ql_world.specs.Idle.{unwinds_at, abandoned}
use Rattle.ql_tree.specs.declared.person.Person.{Person}
use Rattle.ql_tree.specs.Kill.{is_killed, killed_numbers}
use Rattle.ql_code.specs.Machine.{Point, Entry}
use Rattle.ql_host.specs.declared.shared.Shared.{Shared}

-- whether the process with this number is killed, if it is there
abbrev pub is_killed_at : List Catch → (c owner number : ℕ) → Option Person → Bool
is_killed_at catches c owner n None = false
is_killed_at catches c owner n (Some r) = is_killed catches c owner n r

-- how many are killed
abbrev pub killed_count : Shared → (c owner : ℕ) → ℕ
killed_count h c owner = length (killed_numbers h.tree.catches c owner h.tree.persons)

-- the same but for the thread of process p
abbrev pub IsSameBut : ℕ → World Point Entry → World Point Entry → Type 0
IsSameBut p w v = (t : Point) → with_thread w p t ≡ with_thread v p t

-- what a kill leaves as it was
abbrev pub with_killed : Shared → Shared → Shared
with_killed old new = record old {
  futures = new.futures;
  tree = record old.tree { persons = new.tree.persons };
  calls = new.calls;
  history = record old.history { events = new.history.events; spare = new.history.spare };
}

-- A process of this kind is killed by way of catch c, whatever it was.
abbrev pub killed_by : Machine Point Entry → World Point Entry → (c number : ℕ) → Kind → World Point Entry
killed_by m w c n kind =
    abandoned m (with_event (record w { procs = change_numbered (λ q. record q { aim = die; thread = unwinds_at m q.thread }) w.procs n }) (kill c n)) kind

-- the owner of a catch leaves for it
abbrev pub owner_aimed : Machine Point Entry → World Point Entry → (owner : ℕ) → Aim → World Point Entry
owner_aimed m w owner a = record w { procs = change_numbered (λ q. record q { aim = a; thread = unwinds_at m q.thread }) w.procs owner }
