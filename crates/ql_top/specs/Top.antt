-- What a call of the top answers.
use Rattle.std.specs.Prelude.{◌≡◌, ◌⊎◌, ◌↔◌, ◌≤◌, ◌+◌, ◌++◌, ℕ, List, [], length, Option, Some, None, codes}
use Rattle.ql_base.specs.declared.limits.Limits.{Limits}
use Rattle.ql_base.specs.Outside.{HasRisen, Appends, AppendsFront}
use Rattle.ql_forms.specs.Form.{Forms}
use Rattle.ql_forms.specs.FormText.{forms_text}
use Rattle.ql_forms.specs.Numbered.{Numbered, spelled_forms}
use Rattle.ql_forms.specs.Spelled as spelled
use Rattle.ql_forms.specs.Spells.{Spells}
use Rattle.ql_expand.specs.Core.{Program}
use Rattle.ql_expand.specs.ExpandFault.{expand_fault}
use Rattle.ql_expand.specs.Expands.{ExpandsTo}
use Rattle.ql_scope.specs.Scope.{InScope, scope_fault}
use Rattle.ql_world.specs.Text.{journal_text}
use Rattle.ql_world.specs.declared.event.Stop as stop
use Rattle.ql_world.specs.declared.event.Stop.TheVariants as stops
use Rattle.ql_code.specs.Listing.{listing}
use Rattle.ql_vectors.specs.GenText.{gen_text}
use Rattle.ql_host.specs.Host.{Told}
use Rattle.ql_compile.specs.Compile.{compiled}
use Rattle.ql_compile.specs.Laws.{IsTooLong}
use Rattle.ql_read.specs.TextFault.{TextFault}
use Rattle.ql_top.specs.ErrorLine.{error_line}
use Rattle.ql_top.specs.Reading.{IsCutShort, HoldsTaken}
use Rattle.ql_top.specs.Run.{IsRun}
use Rattle.ql_top.specs.Status.{status_of}
use Rattle.ql_top.specs.Summary.{summary}
use Rattle.ql_top.specs.declared.words.Command.{Command}
use Rattle.ql_top.specs.declared.words.Command.TheVariants as commands
use Rattle.ql_top.specs.declared.words.Command.TheVariants.{Run, Show, Check, Gen, Trial, Replay, Span}
use Rattle.ql_top.specs.declared.words.Options.{Options}
use Rattle.ql_top.specs.declared.status.Ended.{Ended}
use Rattle.ql_top.specs.declared.status.Status.{Status}
use Rattle.ql_top.specs.declared.status.Status.TheVariants.{Done, Refused, Words, NoMemory, ReadFault, WriteFault, Differs}

-- the bytes have no fault and spell these forms, by numbers among these names
pub record IsText (bytes : List ℕ) (names : List (List ℕ)) (forms : Forms) : Type 0 where
  pub spelling : spelled.Forms
  pub spells : Spells bytes spelling
  pub numbered : Numbered spelling names forms
  pub no_fault : (kind at : ℕ) → TextFault bytes kind at → Prim.⊥

-- the forms have no fault and expand to this program, which is in scope and whose code isn't too long
pub record Makes (names : List (List ℕ)) (forms : Forms) (program : Program) : Type 0 where
  pub no_fault : expand_fault names forms ≡ None
  pub expands : ExpandsTo forms program
  pub in_scope : InScope program
  pub short : length (compiled program).instructions ≤ 65535

-- What is wrong with forms, by kind and offset: their first fault, or else the first fault of the names in their program, or
-- else the 65,536th instruction of its code.
pub data Unfit : List (List ℕ) → Forms → (kind at : ℕ) → Type 0 where
  by_forms : {names : List (List ℕ)} {forms : Forms} {kind at : ℕ} → expand_fault names forms ≡ Some (at, kind) → Unfit names forms kind at
  by_scope : {names : List (List ℕ)} {forms : Forms} {kind at : ℕ} (program : Program) → expand_fault names forms ≡ None
      → ExpandsTo forms program → scope_fault program ≡ Some (at, kind) → Unfit names forms kind at
  by_code : {names : List (List ℕ)} {forms : Forms} {at : ℕ} (program : Program) → expand_fault names forms ≡ None
      → ExpandsTo forms program → InScope program → IsTooLong (compiled program) at → Unfit names forms 19 at

-- What refuses bytes, whatever the command. The fault of the text comes before anything that is wrong with the forms.
pub data Refusal : List ℕ → (kind at : ℕ) → Type 0 where
  of_text : {bytes : List ℕ} {kind at : ℕ} → TextFault bytes kind at → Refusal bytes kind at
  of_forms : {bytes : List ℕ} {kind at : ℕ} {names : List (List ℕ)} {forms : Forms} → IsText bytes names forms → Unfit names forms kind at
      → Refusal bytes kind at

-- This refuses the bytes, and nothing else does. A fault of the text, which is of one of the kinds up to 8, is found at most
-- 4,096 bytes beyond its offset; for any other kind the whole source was read.
pub record IsRefused (bytes : List ℕ) (left : Option (List ℕ)) (kind at : ℕ) : Type 0 where
  pub refusal : Refusal bytes kind at
  pub only : (k n : ℕ) → Refusal bytes k n → (k ≡ kind) × (n ≡ at)
  pub taken : List ℕ
  pub rest : List ℕ
  pub parts : bytes ≡ taken ++ rest
  pub is_left : left ≡ Some rest
  pub near : kind ≤ 8 → length taken ≤ at + 4096
  pub whole : 9 ≤ kind → rest ≡ []

-- the bytes are the source of this program, which is in scope and whose code isn't too long
pub record IsSource (bytes : List ℕ) (program : Program) : Type 0 where
  pub names : List (List ℕ)
  pub forms : Forms
  pub is_text : IsText bytes names forms
  pub makes : Makes names forms program

-- A host has told of the run of the program's code, under these limits, and these are its stop, its output and the text of
-- its journal.
pub record IsTold (names : List (List ℕ)) (program : Program) (limits : Limits) (told : Option Told) (stop : stop.Stop) (output lines : List ℕ) : Type 0 where
  pub run : Told
  pub is_told : told ≡ Some run
  pub code_is : run.code ≡ compiled program
  pub names_are : run.names ≡ names
  pub limits_are : run.limits ≡ limits
  pub is_run : IsRun names program limits run.story
  pub stop_is : stop ≡ run.story.stop
  pub output_is : output ≡ run.story.output
  pub lines_are : lines ≡ journal_text run.story.journal

-- the text that says that nothing refuses a source
abbrev pub approval : List ℕ
approval = codes "ok\n"

-- The texts of a command, for the output and for the journal, and the stop by which it ends where they are written. Of a run
-- and a trial alone a host has told. A trial writes its summary after what was printed.
pub data Writes : Command → List (List ℕ) → Forms → Program → Option Told → stop.Stop → (output lines : List ℕ) → Type 0 where
  of_run : {options : Options} {names : List (List ℕ)} {forms : Forms} {program : Program} {told : Option Told} {stop : stop.Stop} {output lines : List ℕ}
      → IsTold names program options.limits told stop output lines → Writes (Run options) names forms program told stop output lines
  of_trial : {seed size : ℕ} {options : Options} {names : List (List ℕ)} {forms : Forms} {program : Program} {told : Option Told} {stop : stop.Stop}
      {printed lines : List ℕ} → IsTold names program options.limits told stop printed lines
      → Writes (Trial seed size options) names forms program told stop (printed ++ summary seed size stop) lines
  of_show : {names : List (List ℕ)} {forms : Forms} {program : Program} → Writes Show names forms program None stops.Done (forms_text (spelled_forms names forms)) []
  of_check : {names : List (List ℕ)} {forms : Forms} {program : Program} → Writes Check names forms program None stops.Done approval []
  of_list : {names : List (List ℕ)} {forms : Forms} {program : Program} → Writes commands.List names forms program None stops.Done (listing names (compiled program)) []

-- Output holds a front of its text, and the journal nothing new, or else output holds its whole text, and the journal a
-- front of its own.
abbrev pub IsCutOff : (output lines : List ℕ) → (out out' journal journal' : Option (List ℕ)) → Type 0
IsCutOff output lines out out' journal journal' =
    (AppendsFront output out out' × (journal' ≡ journal)) ⊎ (Appends output out out' × AppendsFront lines journal journal')

-- The whole text is written, or a call failed, which cut it off.
abbrev pub Shows : Status → (text : List ℕ) → (out out' : Option (List ℕ)) → Type 0
Shows Done text out out' = Appends text out out'
Shows WriteFault text out out' = AppendsFront text out out'
Shows status text out out' = Prim.⊥

-- Both texts are written, and the status is that of the stop; or a call of output or journal failed, which cut them off.
abbrev pub Written : Status → stop.Stop → (output lines : List ℕ) → (out out' journal journal' : Option (List ℕ)) → Type 0
Written WriteFault stop output lines out out' journal journal' = IsCutOff output lines out out' journal journal'
Written status stop output lines out out' journal journal' =
    (status ≡ status_of stop) × (Appends output out out' × Appends lines journal journal')

-- the whole source was read, it is a program's, and nothing refuses it
pub record IsAccepted (bytes : List ℕ) (left : Option (List ℕ)) : Type 0 where
  pub program : Program
  pub source : IsSource bytes program
  pub accepted : (kind at : ℕ) → Refusal bytes kind at → Prim.⊥
  pub none_left : left ≡ Some []

-- the source is accepted, and the texts of the command are written
pub record IsDone (command : Command) (ended : Ended) (bytes : List ℕ) (left out out' journal journal' : Option (List ℕ)) : Type 0 where
  pub of : IsAccepted bytes left
  pub stop : stop.Stop
  pub output : List ℕ
  pub lines : List ℕ
  pub writes : Writes command of.source.names of.source.forms of.program ended.told stop output lines
  pub written : Written ended.status stop output lines out out' journal journal'

-- how a command ends with this status
abbrev pub EndsBy : Status → Command → Ended → (bytes : List ℕ) → (left out out' journal journal' : Option (List ℕ)) → Type 0
EndsBy (Refused kind at) command ended bytes left out out' journal journal' = IsRefused bytes left kind at
EndsBy Words command ended bytes left out out' journal journal' = Prim.⊥
EndsBy NoMemory command ended bytes left out out' journal journal' = Prim.Unit {0}
EndsBy ReadFault command ended bytes left out out' journal journal' = IsCutShort (Some bytes) left
EndsBy (Differs line) command ended bytes left out out' journal journal' = Prim.⊥
EndsBy status command ended bytes left out out' journal journal' = IsDone command ended bytes left out out' journal journal'

-- what a command that makes something of a source answers for these bytes, some of which may be left
abbrev pub Answers : Command → Ended → (bytes : List ℕ) → (left out out' journal journal' : Option (List ℕ)) → Type 0
Answers command ended bytes left out out' journal journal' = EndsBy ended.status command ended bytes left out out' journal journal'

-- The answer is right for the bytes that were taken, whether or not the source tells them.
abbrev pub AnswersTaken : Command → Ended → (left left' out out' journal journal' : Option (List ℕ)) → Type 0
AnswersTaken command ended left left' out out' journal journal' = HoldsTaken (λ bytes rest. Answers command ended bytes rest out out' journal journal') left left'

-- a command that makes something of the source of the call alone
abbrev pub ReadsSource : Command → Type 0
ReadsSource (Gen seed size) = Prim.⊥
ReadsSource (Trial seed size options) = Prim.⊥
ReadsSource Replay = Prim.⊥
ReadsSource Span = Prim.⊥
ReadsSource command = Prim.Unit {0}

-- a command that makes something of a source alone
abbrev pub HasSource : Command → Type 0
HasSource (Gen seed size) = Prim.⊥
HasSource Replay = Prim.⊥
HasSource Span = Prim.⊥
HasSource command = Prim.Unit {0}

-- The source of a command: what is left in the source of the call, or in a trial the text that is generated.
abbrev pub IsSourceOf : Command → (left : Option (List ℕ)) → (bytes : List ℕ) → Type 0
IsSourceOf (Gen seed size) left bytes = Prim.⊥
IsSourceOf Span left bytes = Prim.⊥
IsSourceOf (Trial seed size options) left bytes = bytes ≡ gen_text seed size
IsSourceOf command left bytes = left ≡ Some bytes

-- A trial answers as a command on the text that is generated, of which it may have read less than all.
pub record AnswersTrial (seed size : ℕ) (options : Options) (ended : Ended) (out out' journal journal' : Option (List ℕ)) : Type 0 where
  pub left : Option (List ℕ)
  pub answers : Answers (Trial seed size options) ended (gen_text seed size) left out out' journal journal'

-- the generated text is written, unless memory fails
abbrev pub IsGenerated : Status → (seed size : ℕ) → (out out' journal journal' : Option (List ℕ)) → Type 0
IsGenerated NoMemory seed size out out' journal journal' = Prim.Unit {0}
IsGenerated status seed size out out' journal journal' = Written status stops.Done (gen_text seed size) [] out out' journal journal'

-- The words ask for nothing that reads the source of the call.
abbrev pub LeavesSource : Option Command → Type 0
LeavesSource None = Prim.Unit {0}
LeavesSource (Some (Gen seed size)) = Prim.Unit {0}
LeavesSource (Some (Trial seed size options)) = Prim.Unit {0}
LeavesSource (Some Span) = Prim.Unit {0}
LeavesSource command = Prim.⊥

-- the words ask for nothing that reads the book
abbrev pub LeavesBook : Option Command → Type 0
LeavesBook (Some Replay) = Prim.⊥
LeavesBook (Some Span) = Prim.⊥
LeavesBook command = Prim.Unit {0}

-- the words ask for nothing that runs a program
abbrev pub LeavesJournal : Option Command → Type 0
LeavesJournal (Some (Run options)) = Prim.⊥
LeavesJournal (Some (Trial seed size options)) = Prim.⊥
LeavesJournal command = Prim.Unit {0}

-- The line of a status was written, or a front of it before a call failed.
abbrev pub SaysStatus : Status → (err err' : Option (List ℕ)) → (faults faults' : ℕ) → Type 0
SaysStatus status err err' faults faults' =
    (Appends (error_line status) err err' × (faults' ≡ faults)) ⊎ (AppendsFront (error_line status) err err' × HasRisen faults faults')

-- a status that says what came of a command, or that memory was wanted
abbrev pub IsAnswer : Status → Type 0
IsAnswer Words = Prim.⊥
IsAnswer ReadFault = Prim.⊥
IsAnswer WriteFault = Prim.⊥
IsAnswer status = Prim.Unit {0}

-- The status of a stop, or one of the three failures that hide it.
abbrev pub StopsOrFails : Status → stop.Stop → Type 0
StopsOrFails status stop = (status ≡ status_of stop) ⊎ ((status ≡ NoMemory) ⊎ ((status ≡ ReadFault) ⊎ (status ≡ WriteFault)))

-- a status after which output and journal hold nothing new
abbrev pub IsSilent : Status → Type 0
IsSilent (Refused kind at) = Prim.Unit {0}
IsSilent Words = Prim.Unit {0}
IsSilent NoMemory = Prim.Unit {0}
IsSilent ReadFault = Prim.Unit {0}
IsSilent (Differs line) = Prim.Unit {0}
IsSilent status = Prim.⊥

-- Of a run and of a trial a host has told, unless output and journal hold nothing new. Of any other command none has.
abbrev pub Tells : Option Command → Status → Option Told → Type 0
Tells (Some (Run options)) status told = (told ≡ None) ↔ IsSilent status
Tells (Some (Trial seed size options)) status told = (told ≡ None) ↔ IsSilent status
Tells command status told = told ≡ None

-- The counts of faults of output and journal rise just where the answer is a write fault: one of them has risen then.
abbrev pub WriteFaults : Status → (out out' journal journal' : ℕ) → Type 0
WriteFaults WriteFault out out' journal journal' =
    (HasRisen out out' × (journal' ≡ journal)) ⊎ ((out' ≡ out) × HasRisen journal journal')
WriteFaults status out out' journal journal' = (out' ≡ out) × (journal' ≡ journal)
