-- What is told of the run of a program by one worker.
use Rattle.std.specs.Prelude.{◌≡◌, ℕ, true, List, ◌∷◌, ◌++◌, Some}
use Rattle.ql_base.specs.declared.limits.Limits.{Limits}
use Rattle.ql_expand.specs.Core.{Program}
use Rattle.ql_world.specs.Event.{turns}
use Rattle.ql_world.specs.World.{World, numbered}
use Rattle.ql_world.specs.declared.world.Aim.TheVariants.{Die as die}
use Rattle.ql_world.specs.declared.world.Process.{Process}
use Rattle.ql_world.specs.Tick.{tick}
use Rattle.ql_world.specs.Run.{Story}
use Rattle.ql_meaning.specs.Context.{context_of}
use Rattle.ql_meaning.specs.Control.{Thread, Closure, core_machine}
use Rattle.ql_meaning.specs.Meaning.{program_told, program_planned}
use Rattle.ql_meaning.specs.Laws.{IsReached}
use Rattle.ql_meaning.specs.Legal.{Legal}
use Rattle.ql_meaning.specs.CleanupTick.{CleanupTick}

module _ (names : List (List ℕ)) (program : Program) (limits : Limits) where
  -- along this schedule each tick of a process that was killed only cleans up
  abbrev pub CleansUpAlong : List ℕ → Type 0
  CleansUpAlong schedule =
      (before after : List ℕ) (n : ℕ) (old new : World Thread Closure) (q : Process Thread) → schedule ≡ before ++ n ∷ after
      → IsReached names program limits before old → numbered old.procs n ≡ Some q → q.aim ≡ die
      → tick (core_machine (context_of program)) names limits old n ≡ Some new → CleanupTick (core_machine (context_of program)) q old new

  -- The story is told along the schedule that its own journal spells, which is that of one worker. The journal is legal, and
  -- along its schedule the killed only clean up.
  pub record IsRun (story : Story) : Type 0 where
    pub told : program_told names program limits (turns story.journal.events) ≡ Some story
    pub planned : program_planned names program limits (turns story.journal.events) ≡ true
    pub legal : Legal story.journal.events
    pub cleans : CleansUpAlong (turns story.journal.events)
