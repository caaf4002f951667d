-- What replaying a book tells.
use Rattle.std.specs.Prelude.{◌≡◌, ◌≢◌, ℕ, ◌==◌, ◌<◌, ◌≤◌, Bool, true, false, not, List, [], ◌∷◌, ◌++◌, length, Option, Some, None}
use Rattle.ql_base.specs.declared.limits.Limits.{Limits}
use Rattle.ql_base.specs.Limits.{usual}
use Rattle.ql_world.specs.Event.{turns, plain}
use Rattle.ql_world.specs.declared.event.Event.{Event}
use Rattle.ql_world.specs.declared.event.Head.{Head}
use Rattle.ql_world.specs.World.{World, numbered}
use Rattle.ql_world.specs.declared.world.Process.{Process}
use Rattle.ql_world.specs.Text.{line_of, journal_text}
use Rattle.ql_world.specs.Tick.{can_step, tick}
use Rattle.ql_base.specs.declared.limits.Policy.TheVariants.{Turn}
use Rattle.ql_world.specs.Run.{Story, run, pick, ready_ones}
use Rattle.ql_code.specs.Code.{Code}
use Rattle.ql_code.specs.Sound.{Sound}
use Rattle.ql_code.specs.Machine.{Point, Entry, code_machine, code_world, code_told}
use Rattle.ql_replay.specs.Book.{Line, lines_in, AreOneLine, turn_in, head_in, ReadsTurns, ReadsHeads, IsLow}
use Rattle.ql_replay.specs.FirstDiff.{limits_of, IsUsable, HasHead, FirstDiff}
use Rattle.ql_replay.specs.Replay.{Verdict, same, differs, host_of, plain_line, lines_replayed, replayed}

module _ (names : List (List ℕ)) (code : Code) where
  -- In each state that a run of the code reaches, a process that can step has a tick. Sound code is never lost.
  abbrev pub IsNeverLost : Limits → Type 0
  IsNeverLost limits =
      (schedule : List ℕ) (w : World Point Entry) (p : ℕ) (q : Process Point)
      → run (code_machine code.instructions) names limits (code_world code) schedule ≡ Some w
      → numbered w.procs p ≡ Some q
      → can_step (code_machine code.instructions) names limits p q w ≡ true
      → (v : World Point Entry) × (tick (code_machine code.instructions) names limits w p ≡ Some v)

-- what is told of a program under limits, along a schedule
module _ (told : Limits → List ℕ → Option Story) where
  -- The book is a journal of the program, and this is the output of the run along the schedule that it spells.
  pub data HasOutput (book out : List ℕ) : Type 0 where
    headed : (h : Head) → HasHead book h → IsUsable h → (story : Story) → told (limits_of h) (turns story.journal.events) ≡ Some story
        → book ≡ journal_text story.journal → out ≡ story.output → HasOutput book out
    headless : ((h : Head) → ¬ HasHead book h) → (story : Story) → told usual (turns story.journal.events) ≡ Some story
        → book ≡ journal_text (plain story.journal) → out ≡ story.output → HasOutput book out

abbrev pub line_of_verdict : Verdict → Option ℕ
line_of_verdict (same out) = None
line_of_verdict (differs k) = Some k

-- the verdict on a book: the first line that differs, or the output
pub record IsRight (told : Limits → List ℕ → Option Story) (book : List ℕ) (verdict : Verdict) : Type 0 where
  pub first : FirstDiff told book (line_of_verdict verdict)
  pub output : (out : List ℕ) → verdict ≡ same out → HasOutput told book out

abbrev pub ReplayIsRight : Type 0
ReplayIsRight =
    (names : List (List ℕ)) → AreOneLine names → (code : Code) → ∥ Sound code ∥₁
    → (book : List ℕ) → IsRight (code_told names code) book (replayed names code book)

-- A verdict on what one tells is one on what another tells that is everywhere the same.
abbrev pub IsSameElsewhere : Type 0
IsSameElsewhere =
    (told also : Limits → List ℕ → Option Story) → ((limits : Limits) (schedule : List ℕ) → told limits schedule ≡ also limits schedule)
    → (book : List ℕ) (verdict : Verdict) → IsRight told book verdict → IsRight also book verdict

-- No book has two of them.
abbrev pub IsOne : Type 0
IsOne = (told : Limits → List ℕ → Option Story) (book : List ℕ) (d e : Option ℕ) → FirstDiff told book d → FirstDiff told book e → d ≡ e

-- What was taken of a book is enough, where the line that differs is among its lines.
abbrev pub EarlyIsEnough : Type 0
EarlyIsEnough =
    (names : List (List ℕ)) (code : Code) (ls more : List Line) (k : ℕ) → lines_replayed names code ls ≡ differs k → k ≤ length ls
    → lines_replayed names code (ls ++ more) ≡ differs k

-- Whole lines and a rest have the lines of both.
abbrev pub LinesAreApart : Type 0
LinesAreApart = (taken rest : List ℕ) → lines_in (taken ++ 10 ∷ rest) ≡ lines_in (taken ++ 10 ∷ []) ++ lines_in rest

-- a process that one worker would turn to after this one
abbrev pub is_another : ℕ → Option ℕ → Bool
is_another p None = false
is_another p (Some q) = not (q == p)

-- Whether another process can step is told by what the policy turn picks next.
abbrev pub OtherIsPicked : Type 0
OtherIsPicked =
    (names : List (List ℕ)) (code : Code) (limits : Limits) (w : World Point Entry) (p : ℕ)
    → (host_of (code_machine code.instructions) names limits).has_other w p ≡ is_another p (pick Turn p (ready_ones (code_machine code.instructions) names limits w))

-- Turn lines and head lines are read, and no other lines.
pub record LinesAreRead : Type 0 where
  pub turns : ReadsTurns turn_in
  pub heads : ReadsHeads head_in

-- A line of over 200 bytes is no turn line and no head line, and differs from every line of events whose numbers have 64
-- bits and whose texts have at most 64 bytes.
pub record LongLinesDiffer : Type 0 where
  pub turns : (line : List ℕ) → 200 < length line → turn_in line ≡ None
  pub heads : (line : List ℕ) → 200 < length line → head_in line ≡ None
  pub events : (line : List ℕ) (e : Event) → 200 < length line → IsLow e → (line_of e ≢ line) × (plain_line e ≢ line)
