-- What a reader stands for.
use Rattle.std.specs.Prelude.{◌≡◌, ℕ, List, Some}
use Rattle.ql_read.specs.Scan.{State}
use Rattle.ql_read.specs.Taken.{IsAfter}
use Rattle.ql_read.specs.View.{nested, state_of}
use Rattle.ql_read.specs.declared.reader.Reader.{Reader}
use Rattle.ql_read.specs.declared.reader.ReadRefusal.{ReadRefusal}

-- the state that the reader is in, with these names for the numbers in its forms
abbrev pub told : List (List ℕ) → Reader → State
told names r = state_of r.token r.taken (nested names r.nesting)

-- how many bytes the reader has taken
abbrev pub taken_of : Reader → ℕ
taken_of r = r.taken

-- the reader is as it is after exactly these bytes, none of which is at fault
abbrev pub HasTaken : Reader → List ℕ → Type 0
HasTaken r b = IsAfter r.refused r.taken r.token r.nesting b

-- the reader keeps this refusal, and answers it from now on
abbrev pub HasFailed : Reader → ReadRefusal → Type 0
HasFailed r refusal = r.refused ≡ Some refusal
