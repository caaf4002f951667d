-- How the reading of a source ends. What is said of its bytes holds of every source: of one that doesn't tell them too. A book is a
-- source of another kind, of which the same words are used.
use Rattle.std.specs.Prelude.{◌≡◌, ◌⊎◌, ◌≤◌, ◌<◌, ◌+◌, ◌++◌, ℕ, List, [], length, Option, Some, None, Result, Ok, Err}
use Rattle.ql_base.specs.Outside.{HasRisen}
use Rattle.ql_forms.specs.View.{forms_of}
use Rattle.ql_forms.specs.declared.text.Text.{Text}
use Rattle.ql_read.specs.TextFault as read
use Rattle.ql_read.specs.TextFault.{IsRead, NoFaultIn, unfinished}
use Rattle.ql_read.specs.Told.{HasTaken}
use Rattle.ql_read.specs.declared.reader.Reader.{Reader}
pub use Rattle.ql_replay.specs.Page.{Takes}
use Rattle.ql_top.specs.declared.reading.Piece.{Piece}
use Rattle.ql_top.specs.declared.reading.Piece.TheVariants.{More, End, Stops}
use Rattle.ql_top.specs.declared.status.Status.{Status}
use Rattle.ql_top.specs.declared.status.Status.TheVariants.{Refused, NoMemory, ReadFault}

-- no bytes are left, where the source tells them
abbrev pub IsAtEnd : Option (List ℕ) → Type 0
IsAtEnd None = Prim.Unit {0}
IsAtEnd (Some rest) = rest ≡ []

-- What is said of bytes, some of which may be left, holds of those that were taken, with nothing left.
pub record HoldsTaken (Holds : (bytes : List ℕ) → (left : Option (List ℕ)) → Type 0) (old new : Option (List ℕ)) : Type 0 where
  pub taken : List ℕ
  pub takes : Takes taken old new
  pub holds : Holds taken (Some [])

-- Some bytes were taken. It holds of them with what is left, where the source tells that, or with nothing more.
pub record HoldsFurther (Holds : (bytes : List ℕ) → (left : Option (List ℕ)) → Type 0) (old new : Option (List ℕ)) : Type 0 where
  pub taken : List ℕ
  pub takes : Takes taken old new
  pub holds : (rest : List ℕ) → (new ≡ Some rest) ⊎ (rest ≡ []) → Holds (taken ++ rest) (Some rest)

-- some bytes were taken, none of which is at fault
pub record HasRead (reader : Reader) (old new : Option (List ℕ)) : Type 0 where
  pub taken : List ℕ
  pub takes : Takes taken old new
  pub has_taken : HasTaken reader taken
  pub no_fault : NoFaultIn taken

-- all bytes were taken, and they spell this text
pub record ReadsAll (text : Text) (old new : Option (List ℕ)) : Type 0 where
  pub taken : List ℕ
  pub takes : Takes taken old new
  pub is_read : IsRead taken (forms_of text.forms) text.names
  pub at_end : IsAtEnd new

-- The bytes that were taken have this one fault, however they go on; at most 4,096 of them are beyond its offset. They
-- may end too early only at the end.
pub record IsFaulty (kind at : ℕ) (old new : Option (List ℕ)) : Type 0 where
  pub taken : List ℕ
  pub takes : Takes taken old new
  pub refused : read.IsRefused taken kind at
  pub near : length taken ≤ at + 4096
  pub at_end : kind ≡ unfinished → IsAtEnd new

-- no byte that was taken is at fault
pub record IsCutShort (old new : Option (List ℕ)) : Type 0 where
  pub taken : List ℕ
  pub takes : Takes taken old new
  pub no_fault : NoFaultIn taken

-- reading ends with this status: a refusal, or a failure before any refusal
abbrev pub StopsReading : Status → (old new : Option (List ℕ)) → Type 0
StopsReading (Refused kind at) old new = IsFaulty kind at old new
StopsReading NoMemory old new = (taken : List ℕ) × Takes taken old new
StopsReading ReadFault old new = IsCutShort old new
StopsReading status old new = Prim.⊥

abbrev pub EndsReading : Result Text Status → (old new : Option (List ℕ)) → Type 0
EndsReading (Ok text) old new = ReadsAll text old new
EndsReading (Err status) old new = StopsReading status old new

abbrev pub EndsFeeding : Result (Prim.Unit {0}) Status → Reader → (old new : Option (List ℕ)) → Type 0
EndsFeeding (Ok _) reader old new = HasRead reader old new × IsAtEnd new
EndsFeeding (Err status) reader old new = StopsReading status old new

abbrev pub AfterPiece : Piece → Reader → (old new : Option (List ℕ)) → Type 0
AfterPiece More reader old new = HasRead reader old new
AfterPiece End reader old new = HasRead reader old new × IsAtEnd new
AfterPiece (Stops status) reader old new = StopsReading status old new

-- each piece but the last gives at least one byte
abbrev pub AfterCount : Piece → (old new : ℕ) → Type 0
AfterCount More old new = (old < new) × (new ≤ 1048576)
AfterCount _ old new = Prim.Unit {0}

-- A count of faults rises just where the status is a read fault.
abbrev pub RisesBy : Status → (old new : ℕ) → Type 0
RisesBy ReadFault old new = HasRisen old new
RisesBy status old new = new ≡ old

-- The counts of source and book rise just where the status is a read fault: one of them has risen then.
abbrev pub ReadFaults : Status → (source source' book book' : ℕ) → Type 0
ReadFaults ReadFault source source' book book' = (HasRisen source source' × (book' ≡ book)) ⊎ ((source' ≡ source) × HasRisen book book')
ReadFaults status source source' book book' = (source' ≡ source) × (book' ≡ book)

abbrev pub AfterFaults : Piece → (old new : ℕ) → Type 0
AfterFaults (Stops status) old new = RisesBy status old new
AfterFaults _ old new = new ≡ old

abbrev pub FaultsOfReading : {A : Type 0} → Result A Status → (old new : ℕ) → Type 0
FaultsOfReading (Ok _) old new = new ≡ old
FaultsOfReading (Err status) old new = RisesBy status old new
