-- What is promised of a program's code and of every run of it.
use Rattle.std.specs.Prelude.{◌≡◌, ℕ, List, Some, option_map, slice_get}
use Rattle.ql_base.specs.declared.limits.Limits.{Limits}
use Rattle.ql_expand.specs.Core.{Program}
use Rattle.ql_world.specs.Event.{turns}
use Rattle.ql_world.specs.Run.{Story}
use Rattle.ql_meaning.specs.Meaning.{program_told, program_planned}
use Rattle.ql_meaning.specs.Legal.{Legal}
use Rattle.ql_compile.specs.Compile.{compiled}
use Rattle.ql_code.specs.Code.{Instruction, Code}
use Rattle.ql_code.specs.Machine.{code_told, code_planned}

-- it has more than 65,535 instructions, and the 65,536th has this offset
abbrev pub IsTooLong : Code → ℕ → Type 0
IsTooLong code at = option_map (λ (i : Instruction). i.at) (slice_get code.instructions 65535) ≡ Some at

module _ (names : List (List ℕ)) (p : Program) (limits : Limits) where
  -- what is told of this code is what is told of the program
  abbrev pub Simulates : Code → Type 0
  Simulates code = (schedule : List ℕ) → code_told names code limits schedule ≡ program_told names p limits schedule

  abbrev pub IsCodeTold : List ℕ → Story → Type 0
  IsCodeTold schedule story = code_told names (compiled p) limits schedule ≡ Some story

  -- what is told of the code is what is told of the program
  abbrev pub CodeFollows : Type 0
  CodeFollows = Simulates (compiled p)

  -- one worker takes the same schedules of the code as of the program
  abbrev pub CodeIsPlanned : Type 0
  CodeIsPlanned = (schedule : List ℕ) → code_planned names (compiled p) limits schedule ≡ program_planned names p limits schedule

  abbrev pub CodeJournalsAreLegal : Type 0
  CodeJournalsAreLegal = (schedule : List ℕ) (story : Story) → IsCodeTold schedule story → Legal story.journal.events

  abbrev pub CodeJournalsSpellTheirSchedules : Type 0
  CodeJournalsSpellTheirSchedules = (schedule : List ℕ) (story : Story) → IsCodeTold schedule story → turns story.journal.events ≡ schedule
