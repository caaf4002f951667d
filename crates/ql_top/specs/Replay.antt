-- What the command `replay` answers for a source and a book.
use Rattle.std.specs.Prelude.{◌≡◌, ◌⊎◌, ℕ, List, [], Option, Some}
use Rattle.ql_base.specs.declared.limits.Limits.{Limits}
use Rattle.ql_base.specs.Outside.{Appends, AppendsFront}
use Rattle.ql_world.specs.Run.{Story}
use Rattle.ql_meaning.specs.Meaning.{program_told}
use Rattle.ql_replay.specs.Answer.{IsCutOff}
use Rattle.ql_replay.specs.Law.{IsRight}
use Rattle.ql_replay.specs.Replay.{same, differs}
use Rattle.ql_top.specs.Reading.{IsCutShort}
use Rattle.ql_top.specs.Top.{IsRefused, IsAccepted}
use Rattle.ql_top.specs.declared.status.Status.{Status}
use Rattle.ql_top.specs.declared.status.Status.TheVariants.{Done, Refused, NoMemory, ReadFault, WriteFault, Differs}

-- what is told under limits, along a schedule
abbrev pub Telling : Type 0
Telling = Limits → List ℕ → Option Story

-- The book is one of the journals of what is told, and it was read to its end. Its run printed this output.
pub record IsSame (tells : Telling) (book : List ℕ) (rest : Option (List ℕ)) (Shown : (output : List ℕ) → Type 0) : Type 0 where
  pub output : List ℕ
  pub right : IsRight tells book (same output)
  pub read_out : rest ≡ Some []
  pub shown : Shown output

-- How following a book ends with this status. Of a book that differs the line is the first at which it differs from all
-- journals; after a fault of the book no line that was taken whole is that one.
abbrev pub EndsFollowing : Status → Telling → (book : List ℕ) → (rest out out' : Option (List ℕ)) → Type 0
EndsFollowing Done tells book rest out out' = IsSame tells book rest (λ output. Appends output out out')
EndsFollowing WriteFault tells book rest out out' = IsSame tells book rest (λ output. AppendsFront output out out')
EndsFollowing (Differs line) tells book rest out out' = IsRight tells book (differs line)
EndsFollowing ReadFault tells book rest out out' = IsCutOff tells book rest
EndsFollowing NoMemory tells book rest out out' = Prim.Unit {0}
EndsFollowing status tells book rest out out' = Prim.⊥

-- the source is accepted, and of what is told of its program this holds
pub record Follows (bytes : List ℕ) (left : Option (List ℕ)) (Holds : Telling → Type 0) : Type 0 where
  pub of : IsAccepted bytes left
  pub holds : Holds (program_told of.source.names of.program)

-- A source is refused as by any command, and no book is read then. Otherwise the book is followed.
abbrev pub AnswersReplay : Status → (bytes : List ℕ) → (left : Option (List ℕ)) → (book : List ℕ) → (rest out out' : Option (List ℕ)) → Type 0
AnswersReplay (Refused kind at) bytes left book rest out out' = IsRefused bytes left kind at × (rest ≡ Some book)
AnswersReplay NoMemory bytes left book rest out out' = Prim.Unit {0}
AnswersReplay ReadFault bytes left book rest out out' =
    (IsCutShort (Some bytes) left × (rest ≡ Some book)) ⊎ Follows bytes left (λ tells. IsCutOff tells book rest)
AnswersReplay status bytes left book rest out out' = Follows bytes left (λ tells. EndsFollowing status tells book rest out out')
