-- What the steps of a turn ask of a seat, and how they leave it.
use Rattle.std.specs.Prelude.{◌≡◌, ◌+◌, List, [], ◌∷◌, Option, Some, None, IsTrue, IsFalse}
use mathlib.Core.List.{IsPrefix}
use Rattle.atomic_table.specs.Table.{Me}
use Rattle.atomic_table.specs.Seated.{TableId}
use Rattle.ql_turn.specs.declared.view.View.{View}
use Rattle.ql_turn.specs.declared.view.View.TheVariants.{Idle, Holding}
use Rattle.ql_turn.specs.Views.{parts_of, program_in, journal_in, is_holding, MayFollow, IsAtRest}

-- the table of a turn has one word and one slot
abbrev pub IsBoard : TableId → Type 0
IsBoard t = (t.words ≡ 1) × (t.slots ≡ 1)

module _ {P E H : Type 0} where
  -- a seat that doesn't hold the turn
  abbrev pub IsIdle : Me (Option H) (View P E) → Type 0
  IsIdle m = IsAtRest m × IsFalse (is_holding m.0)

  -- the seat has the parts of the other besides, and has seen a journal that begins with both
  abbrev pub HasJoined : Me (Option H) (View P E) → Me (Option H) (View P E) → Me (Option H) (View P E) → Type 0
  HasJoined m other m' =
      (p : P) × (seen : List E) × (program_in m.0 ≡ Some p) × IsPrefix (journal_in m.0) seen × IsPrefix (journal_in other.0) seen
      × (m' ≡ (Idle p seen (parts_of m.0 + parts_of other.0), []))

  module _ (program : H → P) (journal : H → List E) where
    -- the seat has taken this value
    abbrev pub HasTaken : H → Me (Option H) (View P E) → Me (Option H) (View P E) → Type 0
    HasTaken h m m' = MayFollow program journal m.0 h × (m' ≡ (Holding (program h) (journal h) (parts_of m.0), (0, None) ∷ []))

    -- the seat may give this value
    abbrev pub MayGive : H → Me (Option H) (View P E) → Type 0
    MayGive h m = IsAtRest m × IsTrue (is_holding m.0) × MayFollow program journal m.0 h

    -- the seat has given this value
    abbrev pub HasGiven : H → Me (Option H) (View P E) → Me (Option H) (View P E) → Type 0
    HasGiven h m m' = m' ≡ (Idle (program h) (journal h) (parts_of m.0), [])
