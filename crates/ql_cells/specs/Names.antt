-- Names that can be printed.
use Rattle.std.specs.Prelude.{◌≡◌, ℕ, ◌≤◌, List, length, Some, slice_get}
use Rattle.ql_world.specs.Short.{ArePrinted}

-- at least one byte, and each can be printed
pub record IsPrintedName (name : List ℕ) : Type 0 where
  pub some : 1 ≤ length name
  pub printed : ArePrinted name

abbrev pub ArePrintedNames : List (List ℕ) → Type 0
ArePrintedNames names = (n : ℕ) (name : List ℕ) → slice_get names n ≡ Some name → IsPrintedName name
