-- What the parts of a call say to each other.
use Rattle.std.specs.Prelude.{◌≡◌, ℕ, true, List, [], Option, Some, None, Result, Ok, Err}
use Rattle.ql_base.specs.declared.limits.Limits.{Limits}
use Rattle.ql_forms.specs.Form.{Forms}
use Rattle.ql_expand.specs.Core.{Program}
use Rattle.ql_world.specs.Event.{turns}
use Rattle.ql_world.specs.Text.{journal_text}
use Rattle.ql_world.specs.declared.event.Stop.{Stop}
use Rattle.ql_world.specs.declared.event.Stop.TheVariants.{Done as done}
use Rattle.ql_code.specs.Code.{Code}
use Rattle.ql_code.specs.Machine.{code_planned}
use Rattle.ql_host.specs.Host.{Told, IsTold}
use Rattle.ql_compile.specs.Compile.{compiled}
use Rattle.ql_top.specs.Reading.{HoldsTaken, HoldsFurther}
use Rattle.ql_top.specs.Replay.{AnswersReplay}
use Rattle.ql_top.specs.Span.{AnswersSpan}
use Rattle.ql_top.specs.Top.{Answers, Unfit, Makes, Writes}
use Rattle.ql_top.specs.declared.top.Texts.{Texts}
use Rattle.ql_top.specs.declared.top.Texts.TheVariants.{Ran, Tried, Alone}
use Rattle.ql_top.specs.declared.words.Command.{Command}
use Rattle.ql_top.specs.declared.status.Ended.{Ended}
use Rattle.ql_top.specs.declared.status.Status.{Status}
use Rattle.ql_top.specs.declared.status.Status.TheVariants.{Refused, NoMemory}

-- the code is that of the program that the forms make
pub record IsCodeOf (code : Code) (names : List (List ℕ)) (forms : Forms) : Type 0 where
  pub program : Program
  pub makes : Makes names forms program
  pub code_is : code ≡ compiled program

-- what is wrong with forms, or want of memory
abbrev pub StopsText : Status → List (List ℕ) → Forms → Type 0
StopsText (Refused kind at) names forms = Unfit names forms kind at
StopsText NoMemory names forms = Prim.Unit {0}
StopsText status names forms = Prim.⊥

-- the code of forms, or why there is none
abbrev pub Accepts : Result Code Status → List (List ℕ) → Forms → Type 0
Accepts (Ok code) names forms = IsCodeOf code names forms
Accepts (Err status) names forms = StopsText status names forms

abbrev pub told_in : Texts → Option Told
told_in (Ran told lines) = Some told
told_in (Tried told output lines) = Some told
told_in (Alone output) = None

abbrev pub stop_in : Texts → Stop
stop_in (Ran told lines) = told.story.stop
stop_in (Tried told output lines) = told.story.stop
stop_in (Alone output) = done

abbrev pub output_in : Texts → List ℕ
output_in (Ran told lines) = told.story.output
output_in (Tried told output lines) = output.items
output_in (Alone output) = output.items

abbrev pub lines_in : Texts → List ℕ
lines_in (Ran told lines) = lines.items
lines_in (Tried told output lines) = lines.items
lines_in (Alone output) = []

-- they are of a run of this code by one worker, under these limits
pub record IsRunOf (code : Code) (names : List (List ℕ)) (limits : Limits) (told : Told) (lines : List ℕ) : Type 0 where
  pub code_is : told.code ≡ code
  pub names_are : told.names ≡ names
  pub limits_are : told.limits ≡ limits
  pub is_told : IsTold told
  pub planned : code_planned names code limits (turns told.story.journal.events) ≡ true
  pub lines_are : lines ≡ journal_text told.story.journal

-- what a command writes for these forms, which make a program
pub record HasTexts (command : Command) (texts : Texts) (names : List (List ℕ)) (forms : Forms) : Type 0 where
  pub program : Program
  pub makes : Makes names forms program
  pub writes : Writes command names forms program (told_in texts) (stop_in texts) (output_in texts) (lines_in texts)

-- the texts of a command on these forms, or why there are none
abbrev pub Gives : Command → Result Texts Status → List (List ℕ) → Forms → Type 0
Gives command (Ok texts) names forms = HasTexts command texts names forms
Gives command (Err status) names forms = StopsText status names forms

-- The answer is right for the bytes that were taken and more.
abbrev pub AnswersSome : Command → Ended → (left left' out out' journal journal' : Option (List ℕ)) → Type 0
AnswersSome command ended left left' out out' journal journal' = HoldsFurther (λ bytes rest. Answers command ended bytes rest out out' journal journal') left left'

-- What is said of a book holds of its bytes, where it tells them, and of those that were taken.
pub record HoldsOfBook (Holds : (held : List ℕ) → (rest : Option (List ℕ)) → Type 0) (book book' : Option (List ℕ)) : Type 0 where
  pub told : (held : List ℕ) → book ≡ Some held → Holds held book'
  pub taken : HoldsTaken Holds book book'

-- the answer of `replay` is right for the bytes of the source that were taken and more
abbrev pub ReplaysSome : Status → (left left' book book' out out' : Option (List ℕ)) → Type 0
ReplaysSome status left left' book book' out out' =
    HoldsFurther (λ bytes rest. HoldsOfBook (λ held more. AnswersReplay status bytes rest held more out out') book book') left left'

-- the answer of `span` is right
abbrev pub SpansSome : Status → (book book' out out' : Option (List ℕ)) → Type 0
SpansSome status book book' out out' = HoldsFurther (λ held rest. AnswersSpan status held rest out out') book book'
