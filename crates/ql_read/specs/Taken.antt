-- What the parts of a reader stand for.
use Rattle.std.specs.Prelude.{◌≡◌, ◌≤◌, ℕ, List, length, Option, None}
use Rattle.ql_read.specs.TextFault.{limit}
use Rattle.ql_read.specs.Scan.{State, scan, start, fault_of}
use Rattle.ql_read.specs.Numbering.{GoesOn, state_names}
use Rattle.ql_read.specs.View.{nested, state_of}
use Rattle.ql_read.specs.declared.nesting.Nesting.{Nesting}
use Rattle.ql_read.specs.declared.reader.ReadRefusal.{ReadRefusal}
use Rattle.ql_read.specs.declared.token.Token.{Token}

-- token, count and nesting are those of this state, whatever names come later
unfoldable pub IsIn : Token → ℕ → Nesting → State → Type 0
IsIn token taken nesting s = (later : List (List ℕ)) → GoesOn nesting.names later → state_of token taken (nested later nesting) ≡ s

-- The parts are as they are after exactly these bytes, with the names of the symbols that have ended. None of the
-- bytes is at fault, and they aren't too many.
pub record IsAfter (refused : Option ReadRefusal) (taken : ℕ) (token : Token) (nesting : Nesting) (b : List ℕ) : Type 0 where
  pub reading : refused ≡ None
  pub scanned : IsIn token taken nesting (scan start b)
  pub numbered : nesting.names ≡ state_names (scan start b)
  pub no_fault : fault_of (scan start b) ≡ None
  pub counted : taken ≡ length b
  pub short : length b ≤ limit

-- Unless something was refused, the parts are as they are after some bytes.
abbrev pub IsAfterSome : Option ReadRefusal → ℕ → Token → Nesting → Type 0
IsAfterSome refused taken token nesting = refused ≡ None → (b : List ℕ) × IsAfter refused taken token nesting b
