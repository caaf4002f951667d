-- What holds of every run of a program.
use Rattle.std.specs.Prelude.{◌≡◌, ℕ, List, Some}
use Rattle.ql_base.specs.declared.limits.Limits.{Limits}
use Rattle.ql_expand.specs.Core.{Program}
use Rattle.ql_world.specs.Event.{turns}
use Rattle.ql_world.specs.World.{World, numbered}
use Rattle.ql_world.specs.declared.world.Aim.TheVariants.{Die as die}
use Rattle.ql_world.specs.declared.world.Process.{Process}
use Rattle.ql_world.specs.Tick.{tick}
use Rattle.ql_world.specs.Run.{Story, run}
use Rattle.ql_meaning.specs.Context.{context_of}
use Rattle.ql_meaning.specs.Control.{Thread, Closure, core_machine}
use Rattle.ql_meaning.specs.Meaning.{program_world, program_told}
use Rattle.ql_meaning.specs.Sane.{Sane}
use Rattle.ql_meaning.specs.Bridge.{LinesTell}
use Rattle.ql_meaning.specs.Legal.{Legal}
use Rattle.ql_meaning.specs.CleanupTick.{CleanupTick}

module _ (names : List (List ℕ)) (p : Program) (limits : Limits) where
  -- the world after a schedule
  abbrev pub IsReached : List ℕ → World Thread Closure → Type 0
  IsReached schedule w = run (core_machine (context_of p)) names limits (program_world p) schedule ≡ Some w

  abbrev pub SaneAlong : Type 0
  SaneAlong = (schedule : List ℕ) (w : World Thread Closure) → IsReached schedule w → Sane w

  abbrev pub JournalsAreLegal : Type 0
  JournalsAreLegal = (schedule : List ℕ) (story : Story) → program_told names p limits schedule ≡ Some story → Legal story.journal.events

  -- a tick of a process that was killed
  abbrev pub KilledOnlyCleanUp : Type 0
  KilledOnlyCleanUp = (schedule : List ℕ) (old new : World Thread Closure) (n : ℕ) (q : Process Thread) → IsReached schedule old → numbered old.procs n ≡ Some q → q.aim ≡ die
      → tick (core_machine (context_of p)) names limits old n ≡ Some new → CleanupTick (core_machine (context_of p)) q old new

  abbrev pub LinesTellAlong : Type 0
  LinesTellAlong = (schedule : List ℕ) (w : World Thread Closure) → IsReached schedule w → LinesTell w

  -- its turns are the schedule
  abbrev pub JournalsSpellTheirSchedules : Type 0
  JournalsSpellTheirSchedules = (schedule : List ℕ) (story : Story) → program_told names p limits schedule ≡ Some story → turns story.journal.events ≡ schedule
