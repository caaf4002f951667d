-- A run of code, as far as it has come, and what is told of it once it has stopped.
use Rattle.std.specs.Prelude.{◌≡◌, ◌≤◌, ◌+◌, ◌-◌, ◌==◌, min, filter, ◌++◌, ℕ, Bool, false, not, ◌&&◌, List, [], ◌∷◌, reverse, replicate, length, Option, Some, None, option_map}
use Rattle.ql_base.specs.declared.limits.Limits.{Limits}
use Rattle.ql_world.specs.Short.{ArePrinted}
use Rattle.ql_world.specs.Event.{turns}
use Rattle.ql_world.specs.World.{World, numbered}
use Rattle.ql_world.specs.declared.world.Process.{Process}
use Rattle.ql_world.specs.Machine.{Machine}
use Rattle.ql_world.specs.Tick as ticks
use Rattle.ql_world.specs.Tick.{tick}
use Rattle.ql_world.specs.Run.{Story, run, stop_of, story_of, is_in, those_from, ready_ones}
use Rattle.ql_world.specs.declared.event.Stop.{Stop}
use Rattle.ql_code.specs.Code.{Code}
use Rattle.ql_code.specs.Machine.{Point, Entry, code_machine, code_world, code_told}
use Rattle.ql_code.specs.LocalPath.{Window, window_of, is_next_local}
use Rattle.ql_proc.specs.Windows.{window_in}
use Rattle.ql_proc.specs.declared.window.Job.{Job}
use Rattle.ql_host.specs.declared.work.Commit.{Commit}
use Rattle.ql_host.specs.declared.work.Commit.TheVariants.{Applied as applied, Dropped as dropped}

pub record Host : Type 0 where
  pub code : Code
  pub names : List (List ℕ)
  pub limits : Limits
  pub world : World Point Entry
  -- the process that was picked last; 0 where none was
  pub last : ℕ
  -- the processes that are away: work was given out for them, and not brought back
  pub away : List ℕ

-- as far as the first two go, limits that are in range
pub record IsInRange (limits : Limits) : Type 0 where
  pub budget : limits.budget ≤ 20000000
  pub cells : limits.cells ≤ 4000000
  pub some_procs : 1 ≤ limits.procs
  pub procs : limits.procs ≤ 65535
  pub output : limits.output ≤ 16777216

-- each name can be printed
abbrev pub AreNames : List (List ℕ) → Type 0
AreNames [] = Unit {0}
AreNames (n ∷ ns) = (1 ≤ length n) × ArePrinted n × AreNames ns

module _ (h : Host) where
  abbrev pub machine : Machine Point Entry
  machine = code_machine h.code.instructions

  -- Its state is that after the schedule which its events spell.
  abbrev pub IsRun : Type 0
  IsRun = run machine h.names h.limits (code_world h.code) (turns (reverse h.world.events)) ≡ Some h.world

  -- whether a process can step
  abbrev pub process_can_step : ℕ → Option (Process Point) → Bool
  process_can_step p None = false
  process_can_step p (Some q) = ticks.can_step machine h.names h.limits p q h.world

  abbrev pub can_step : ℕ → Bool
  can_step p = process_can_step p (numbered h.world.procs p)

  abbrev pub stop : Option Stop
  stop = stop_of machine h.names h.limits h.world

  -- what is told of it where it stops so
  abbrev pub story : Stop → Story
  story s = story_of machine h.names h.limits h.world s

  -- the processes that can step, in rising order
  abbrev pub ready : List ℕ
  ready = ready_ones machine h.names h.limits h.world

  -- those of them that are at home
  abbrev pub ready_home : List ℕ
  ready_home = those_from (λ p q. ticks.can_step machine h.names h.limits p q h.world && not (is_in p h.away)) 1 h.world.procs

  -- the window of a process, if that is there
  abbrev pub window : ℕ → Option Window
  window p = option_map window_of (numbered h.world.procs p)

  abbrev pub is_local_in : Option Window → Bool
  is_local_in None = false
  is_local_in (Some a) = is_next_local h.code.instructions None a

  -- whether the next tick of a process touches its window alone
  abbrev pub next_is_local : ℕ → Bool
  next_is_local p = is_local_in (window p)

  -- Work of n ticks on a window can be taken in: the process still has that window, so many ticks are left in the budget, and
  -- the run goes on.
  pub record CanTake (p : ℕ) (start : Window) (n : ℕ) : Type 0 where
    pub same : window p ≡ Some start
    pub within : h.world.ticks + n ≤ h.limits.budget
    pub goes_on : stop ≡ None

  -- the world after n ticks of a process
  abbrev pub worked : ℕ → ℕ → Option (World Point Entry)
  worked p n = run machine h.names h.limits h.world (replicate n p)

  -- the world after a tick of a process
  abbrev pub ticked : ℕ → Option (World Point Entry)
  ticked p = tick machine h.names h.limits h.world p

-- without this process
abbrev pub without : ℕ → List ℕ → List ℕ
without p rs = filter (λ r. not (p == r)) rs

-- A job for a process, on its window as the host holds it, with room for so many ticks.
pub record IsJob (h : Host) (p most : ℕ) (j : Job) : Type 0 where
  pub process : j.proc ≡ p
  pub start : window h p ≡ Some (window_in j.start)
  pub copy : window_in j.start ≡ window_in j.window
  pub most_is : j.most ≡ most
  pub room : most ≤ j.window.top.stack.room

-- What a checkout gives where this process is picked.
abbrev pub IsCheckedOut : Option Job → (picked : Option ℕ) → (old new : Host) → Type 0
IsCheckedOut None picked old new = (picked ≡ None) × (new ≡ old)
IsCheckedOut (Some j) picked old new =
    (picked ≡ Some j.proc) × (IsJob old j.proc (min old.limits.quantum (old.limits.budget - old.world.ticks)) j × (new ≡ record old { last = j.proc; away = old.away ++ j.proc ∷ [] }))

-- what becomes of work of n ticks on a window of a process
abbrev pub Comes : Commit → (old new : Host) → (p : ℕ) → Window → (n : ℕ) → Type 0
Comes (applied k) old new p start n = (k ≡ n) × (CanTake old p start n × (worked old p n ≡ Some new.world))
Comes dropped old new p start n = (CanTake old p start n → ⊥) × (new.world ≡ old.world)

-- what is told of a run that stopped, and of which code it is
pub record Told : Type 0 where
  pub code : Code
  pub names : List (List ℕ)
  pub limits : Limits
  pub story : Story

-- it is what is told along the schedule that its own journal spells
abbrev pub IsTold : Told → Type 0
IsTold t = code_told t.names t.code t.limits (turns t.story.journal.events) ≡ Some t.story
