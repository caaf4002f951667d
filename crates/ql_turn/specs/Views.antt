-- What a view says.
use Rattle.std.specs.Prelude.{◌≡◌, ℕ, Bool, true, false, List, [], ◌∷◌, Option, Some, None, IsTrue}
use mathlib.Core.List.{IsPrefix}
use Rattle.atomic_table.specs.Table.{Me}
use Rattle.ql_turn.specs.declared.view.View.{View}
use Rattle.ql_turn.specs.declared.view.View.TheVariants.{Spent, Idle, Joined, Holding}

module _ {P E : Type 0} where
  -- its part of the 65,536
  abbrev pub parts_of : View P E → ℕ
  parts_of Spent = 0
  parts_of (Idle p seen n) = n
  parts_of (Joined p a b n) = n
  parts_of (Holding p taken n) = n

  -- a spent view alone has none
  abbrev pub program_in : View P E → Option P
  program_in Spent = None
  program_in (Idle p seen n) = Some p
  program_in (Joined p a b n) = Some p
  program_in (Holding p taken n) = Some p

  -- of two journals seen the first
  abbrev pub journal_in : View P E → List E
  journal_in Spent = []
  journal_in (Idle p seen n) = seen
  journal_in (Joined p a b n) = a
  journal_in (Holding p taken n) = taken

  abbrev pub is_holding : View P E → Bool
  is_holding (Holding p taken n) = true
  is_holding v = false

  -- the value is of the program that the view names, and its journal begins with the one that the view has seen
  abbrev pub MayFollow : {H : Type 0} → (H → P) → (H → List E) → View P E → H → Type 0
  MayFollow program journal v h = (program_in v ≡ Some (program h)) × IsPrefix (journal_in v) (journal h)

  -- neither spent nor just joined, as the view of every pass is between two calls
  abbrev pub is_usable : View P E → Bool
  is_usable (Idle p seen n) = true
  is_usable (Holding p taken n) = true
  is_usable v = false

  -- the slots that are out with a seat at rest: with the one that holds the turn the slot is, and it is empty while the value is in use
  abbrev pub slots_with : {H : Type 0} → View P E → List (ℕ × Option H)
  slots_with (Holding p taken n) = (0, None) ∷ []
  slots_with v = []

  abbrev pub IsAtRest : {H : Type 0} → Me (Option H) (View P E) → Type 0
  IsAtRest m = IsTrue (is_usable m.0) × (m.1 ≡ slots_with m.0)
