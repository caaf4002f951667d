-- What a host keeps of itself.
use Rattle.std.specs.Prelude.{◌≡◌, ◌≤◌, ℕ, List, [], ◌∷◌, length, reverse, Some, None}
use Rattle.ql_base.specs.declared.limits.Limits.{Limits}
use Rattle.ql_world.specs.declared.world.Kind.TheVariants.{Main as main}
use Rattle.ql_world.specs.Event.{turns}
use Rattle.ql_world.specs.World.{World, outermost, without_values}
use Rattle.ql_world.specs.Run.{run, head_of}
use Rattle.ql_cells.specs.Names.{ArePrintedNames}
use Rattle.ql_tree.specs.Tree.{new_person}
use Rattle.ql_code.specs.Code.{Code}
use Rattle.ql_code.specs.Machine.{Point, Entry, code_machine, code_world}
use Rattle.ql_proc.specs.declared.process.Proc.{Proc}
use Rattle.ql_host.specs.declared.shared.Shared.{Shared}
use Rattle.ql_host.specs.Acts.{world_in}

-- the world of a run after the schedule that its events spell
abbrev pub IsRunTo : Code → List (List ℕ) → Limits → World Point Entry → Type 0
IsRunTo code names limits w = run (code_machine code.instructions) names limits (code_world code) (turns (reverse w.events)) ≡ Some w

-- The state is one of the run. The tables keep its limits, there is a thread for each process, the head tells the limits,
-- there is room for the stop, and what is counted is small.
pub record IsHosted (code : Code) (names : List (List ℕ)) (limits : Limits) (h : Shared) (ts : List Proc) : Type 0 where
  pub runs : IsRunTo code names limits (world_in h ts)
  pub long : length ts ≡ length h.tree.persons
  pub cells : h.cells.limit ≡ limits.cells
  pub procs : h.tree.limit ≡ limits.procs
  pub head : h.history.head ≡ Some (head_of limits)
  pub room : 1 ≤ h.history.spare
  pub protects : h.protects ≤ h.history.ticks
  pub ticks : h.history.ticks ≤ limits.budget
  pub budget : limits.budget ≤ 20000000
  pub printed : ∥ ArePrintedNames names ∥₁

-- the tables before the first tick
pub record IsOpening (code : Code) (limits : Limits) (h : Shared) : Type 0 where
  pub pairs : h.cells.pairs ≡ code.quoted
  pub boxes : h.cells.boxes ≡ []
  pub closures : h.cells.closures ≡ []
  pub made : h.cells.made ≡ 0
  pub cells : h.cells.limit ≡ limits.cells
  pub futures : h.futures.states ≡ []
  pub catches : h.tree.catches ≡ outermost ∷ []
  pub persons : h.tree.persons ≡ new_person 0 main ∷ []
  pub procs : h.tree.limit ≡ limits.procs
  pub servers : h.calls.servers ≡ []
  pub globals : h.globals.items ≡ without_values code.globals
  pub output : h.output.bytes ≡ []
  pub events : h.history.events ≡ []
  pub ticks : h.history.ticks ≡ 0
  pub head : h.history.head ≡ Some (head_of limits)
  pub room : 1 ≤ h.history.spare
  pub protects : h.protects ≡ 0
  pub mark : h.mark ≡ None
