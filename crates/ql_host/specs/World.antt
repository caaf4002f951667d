-- The world that a host's tables and threads stand for.
use Rattle.std.specs.Prelude.{◌≡◌, ◌<◌, ◌≤◌, ◌+◌, ℕ, suc, ◌^◌, true, List, length, Some, slice_get, slice_set}
use Rattle.ql_base.specs.declared.limits.Limits.{Limits}
use Rattle.ql_world.specs.World.{World, numbered}
use Rattle.ql_world.specs.Machine.{Machine}
use Rattle.ql_world.specs.Tick.{can_step, tick}
use Rattle.ql_cells.specs.Names.{ArePrintedNames}
use Rattle.ql_tree.specs.declared.person.Person.{Person}
use Rattle.ql_tree.specs.Persons.{process_of_person, joined}
use Rattle.ql_code.specs.Code.{instruction, Code}
use Rattle.ql_code.specs.declared.code.Op.{Op}
use Rattle.ql_code.specs.Machine.{Point, Entry, words, op_want, code_machine}
use Rattle.ql_code.specs.declared.mark.State.TheVariants.{Running as running}
use Rattle.ql_code.specs.Standing.{Made, IsAsked}
use Rattle.ql_code.specs.Operands.{operands_of}
use Rattle.ql_host.specs.declared.shared.Shared.{Shared}

abbrev pub world_of : Shared → List Point → World Point Entry
world_of h threads = record {
  pairs = h.cells.pairs;
  boxes = h.cells.boxes;
  closures = h.cells.closures;
  futures = h.futures.states;
  catches = h.tree.catches;
  servers = h.calls.servers;
  procs = joined h.tree.persons threads;
  globals = h.globals.items;
  output = h.output.bytes;
  events = h.history.events;
  ticks = h.history.ticks;
  cells = h.cells.made;
  protects = h.protects;
  mark = h.mark;
}

-- how many of each were made
abbrev pub made_in : Shared → Made
made_in h = record {
  pairs = length h.cells.pairs;
  boxes = length h.cells.boxes;
  closures = length h.cells.closures;
  futures = length h.futures.states;
  servers = length h.calls.servers;
  catches = length h.tree.catches;
  globals = length h.globals.items;
}

-- the same but for room
abbrev pub IsSame : Shared → Shared → Type 0
IsSame old new = (threads : List Point) → world_of new threads ≡ world_of old threads

-- What holds between ticks: the tables keep the limits of the run, its names can be printed, and what is counted is
-- small.
pub record IsFit (names : List (List ℕ)) (limits : Limits) (h : Shared) : Type 0 where
  pub cells : h.cells.limit ≡ limits.cells
  pub procs : h.tree.limit ≡ limits.procs
  pub printed : ArePrintedNames names
  pub ticks : h.history.ticks < 2 ^ 63
  pub protects : h.protects ≤ h.history.ticks

module _ (code : Code) (names : List (List ℕ)) (limits : Limits) (p : ℕ) where
  abbrev pub machine : Machine Point Entry
  machine = code_machine code.instructions

  -- Process p, of which the tree keeps this person, takes a tick, whatever the threads of the others are: its thread t
  -- becomes u.
  abbrev pub Acts : Person → (old : Shared) (t : Point) (new : Shared) (u : Point) → Type 0
  Acts r old t new u =
      (threads : List Point) (i : ℕ) → p ≡ suc i → slice_get threads i ≡ Some t → numbered old.tree.persons p ≡ Some r
      → can_step machine names limits p (process_of_person r t) (world_of old threads) ≡ true
      → tick machine names limits (world_of old threads) p ≡ Some (world_of new (slice_set threads i u))

  -- What is known of a process at an instruction that it can take: what it asks for is there, and its operands are too.
  pub record IsAt (h : Shared) (r : Person) (t : Point) (op : Op) (at : ℕ) : Type 0 where
    pub fit : IsFit names limits h
    pub runs : t.state ≡ running
    pub here : slice_get code.instructions t.place ≡ Some (instruction op at)
    pub asked : IsAsked (made_in h) r.kind (op_want op at t.stack)
    pub operands : length (words (operands_of op) t.stack) ≡ operands_of op

-- What a tick leaves as it was, or nearly so: the limits and the head, and room for one more event, which is the stop.
-- No process is lost.
pub record Keeps (old new : Shared) : Type 0 where
  pub cells : new.cells.limit ≡ old.cells.limit
  pub procs : new.tree.limit ≡ old.tree.limit
  pub head : new.history.head ≡ old.history.head
  pub ticks : new.history.ticks ≡ old.history.ticks + 1
  pub protects : new.protects ≤ old.protects + 1
  pub room : 1 ≤ new.history.spare
  pub persons : length old.tree.persons ≤ length new.tree.persons
