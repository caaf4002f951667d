-- How the reading of a book ends that is held as a whole.
use Rattle.std.specs.Prelude.{◌≡◌, ◌≤◌, ◌<◌, ◌+◌, ℕ, Bool, true, false, List, length, Option, Vec, Result, Ok, Err}
use Rattle.ql_top.specs.Reading.{Takes, IsAtEnd}
use Rattle.ql_top.specs.declared.status.Status.{Status}
use Rattle.ql_top.specs.declared.status.Status.TheVariants.{Refused, NoMemory, ReadFault}

-- the most bytes of a book that are held
abbrev pub most : ℕ
most = 67108864

-- these bytes were taken, and they are no more than may be held
pub record IsHeld (bytes : List ℕ) (old new : Option (List ℕ)) : Type 0 where
  pub takes : Takes bytes old new
  pub few : length bytes ≤ most

-- more bytes were taken than may be held, by at most 4,096
pub record IsTooMuch (old new : Option (List ℕ)) : Type 0 where
  pub taken : List ℕ
  pub takes : Takes taken old new
  pub many : most < length taken
  pub near : length taken ≤ most + 4096

-- reading ends with this status: the book is too long, or a failure comes before that is seen
abbrev pub StopsBook : Status → (old new : Option (List ℕ)) → Type 0
StopsBook (Refused kind at) old new = (kind ≡ 22) × (at ≡ most) × IsTooMuch old new
StopsBook NoMemory old new = (taken : List ℕ) × Takes taken old new
StopsBook ReadFault old new = (taken : List ℕ) × IsHeld taken old new
StopsBook status old new = Prim.⊥

abbrev pub EndsBook : {A : Type 0} → Result (Vec ℕ A) Status → (old new : Option (List ℕ)) → Type 0
EndsBook (Ok bytes) old new = IsHeld bytes.items old new × IsAtEnd new
EndsBook (Err status) old new = StopsBook status old new

-- One more piece is held, or the book has ended, or reading ends.
abbrev pub AfterPart : Result Bool Status → (bytes : List ℕ) → (old new : Option (List ℕ)) → Type 0
AfterPart (Ok true) bytes old new = IsHeld bytes old new
AfterPart (Ok false) bytes old new = IsHeld bytes old new × IsAtEnd new
AfterPart (Err status) bytes old new = StopsBook status old new
