-- What each kind of step tells its pass: how the view and the slots of its seat change.
use Rattle.std.specs.Prelude.{◌≡◌, ◌≢◌, ℕ, ◌+◌, ◌-◌, List, [], ◌∷◌, Option, Some}
use mathlib.Core.List.{IsPrefix}
use Rattle.atomic_table.specs.Table.{Me, Step}
use Rattle.ql_turn.specs.declared.view.View.{View}
use Rattle.ql_turn.specs.declared.view.View.TheVariants.{Spent, Idle, Joined, Holding}
use Rattle.ql_turn.specs.Views.{parts_of, program_in, MayFollow}

module _ {P E : Type 0} where
  -- the view of a pass that gives one part to a new pass, and the view of the new one
  abbrev pub one_less : View P E → View P E
  one_less (Idle p seen n) = Idle p seen (n - 1)
  one_less v = v

  abbrev pub one_part : View P E → View P E
  one_part (Idle p seen n) = Idle p seen 1
  one_part v = Spent

  -- the view of a pass that takes in another
  abbrev pub joined : View P E → View P E → View P E
  joined (Idle p a n) (Idle q b m) = Joined p a b (n + m)
  joined v w = v

  -- all that the view has seen begins this journal
  abbrev pub IsSeenIn : View P E → List E → Type 0
  IsSeenIn Spent j = Unit {0}
  IsSeenIn (Idle p seen n) j = IsPrefix seen j
  IsSeenIn (Joined p a b n) j = IsPrefix a j × IsPrefix b j
  IsSeenIn (Holding p taken n) j = IsPrefix taken j

  module _ {H : Type 0} where
    -- a pass that was just joined has seen one journal now, which begins with all that it had seen
    abbrev pub looked : Step (Option H) → Me (Option H) (View P E) → ℕ → Me (Option H) (View P E) → Type 0
    looked st m found m' = (p : P) × (seen : List E) × (program_in m.0 ≡ Some p) × IsSeenIn m.0 seen × (m' ≡ (Idle p seen (parts_of m.0), []))

    module _ (program : H → P) (journal : H → List E) where
      -- where the turn was free it is held now, with a value that goes on from what was seen
      abbrev pub took : Step (Option H) → Me (Option H) (View P E) → ℕ → Me (Option H) (View P E) → Type 0
      took st m found m' =
          (found ≡ 0 → (h : H) × MayFollow program journal m.0 h × (m' ≡ (Holding (program h) (journal h) (parts_of m.0), (0, Some h) ∷ [])))
          × (found ≢ 0 → m' ≡ m)

      -- the value in the slot lies in the turn, and its journal was seen
      abbrev pub gave : Step (Option H) → Me (Option H) (View P E) → ℕ → Me (Option H) (View P E) → Type 0
      gave st m found m' = (h : H) → m.1 ≡ (0, Some h) ∷ [] → m' ≡ (Idle (program h) (journal h) (parts_of m.0), [])
