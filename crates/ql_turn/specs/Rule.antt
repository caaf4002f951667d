-- The rule of a turn: what holds between any two steps, whatever the threads do.
-- There is one word, 0 where the turn is free and 1 where it is held, and one slot, which is at home exactly where the turn is free.
use Rattle.std.specs.Prelude.{◌≡◌, ℕ, ◌<◌, List, [], ◌∷◌, Option, Some, None, length, slice_index, sum_by}
use mathlib.Core.Option.{some, none}
use mathlib.Core.List.{IsPrefix}
use lib.ListN.{get_elem?}
use Rattle.atomic_table.specs.Table.{State}
use Rattle.ql_turn.specs.declared.view.View.{View}
use Rattle.ql_turn.specs.declared.view.View.TheVariants.{Spent, Idle, Joined, Holding}
use Rattle.ql_turn.specs.Views.{parts_of}

module _ {P E : Type 0} where
  -- what the view of the seat k says is so, where the program is p, the journal given last is j, and this seat, if any, holds the turn
  abbrev pub Fits : P → List E → Option ℕ → ℕ → View P E → Type 0
  Fits p j holder k Spent = Unit {0}
  Fits p j holder k (Idle q seen n) = (q ≡ p) × IsPrefix seen j × (0 < n)
  Fits p j holder k (Joined q a b n) = (q ≡ p) × IsPrefix a j × IsPrefix b j × (0 < n)
  Fits p j holder k (Holding q taken n) = (q ≡ p) × (taken ≡ j) × (0 < n) × (holder ≡ Some k)

  abbrev pub AllFit : P → List E → Option ℕ → List (View P E) → Type 0
  AllFit p j holder views = (k : ℕ) (v : View P E) → get_elem? views k ≡ some v → Fits p j holder k v

  module _ {H : Type 0} (program : H → P) (journal : H → List E) where
    -- the turn is free and the value lies in it, or one seat holds the turn and has the slot
    abbrev pub Stands : P → List E → Option ℕ → State (Option H) (View P E) → Type 0
    Stands p j None s = (slice_index s.words 0 ≡ 0) × (value : H) × (s.homes ≡ some (Some value) ∷ []) × (program value ≡ p) × (journal value ≡ j)
    Stands p j (Some who) s = (slice_index s.words 0 ≡ 1) × (s.homes ≡ none ∷ []) × (n : ℕ) × (get_elem? s.views who ≡ some (Holding p j n))

    -- all views name one program, and their parts are 65,536 in all
    pub record IsRuled (s : State (Option H) (View P E)) : Type 0 where
      pub named : P
      pub given : List E
      pub holder : Option ℕ
      pub wide : length s.words ≡ 1
      pub counted : sum_by parts_of s.views ≡ 65536
      pub fit : AllFit named given holder s.views
      pub stands : Stands named given holder s
