-- Counts of faults, and what reading and writing do to the bytes of an end that tells them.
use Rattle.std.specs.Prelude.{◌≡◌, ◌≤◌, ◌<◌, ℕ, ◌+◌, ◌-◌, ◌^◌, min, List, [], ◌++◌, Option, Some, None}

-- the greatest value of a count
abbrev pub most : ℕ
most = 2 ^ 64 - 1

-- The count has risen by a fault, or stands at its greatest value. It never falls.
pub record HasRisen (old new : ℕ) : Type 0 where
  pub not_fallen : old ≤ new
  pub risen : min (old + 1) most ≤ new

-- The bytes were next, and the others are left. None comes only at the end, where there was room.
abbrev pub Reads : ℕ → List ℕ → Option (List ℕ) → Option (List ℕ) → Type 0
Reads room bytes None None = Unit {0}
Reads room bytes (Some old) (Some new) = (old ≡ bytes ++ new) × (bytes ≡ [] → 0 < room → new ≡ [])
Reads room bytes None (Some new) = ⊥
Reads room bytes (Some old) None = ⊥

-- the end holds what it held, and then this text
abbrev pub Appends : List ℕ → Option (List ℕ) → Option (List ℕ) → Type 0
Appends text None None = Unit {0}
Appends text (Some old) (Some new) = new ≡ old ++ text
Appends text None (Some new) = ⊥
Appends text (Some old) None = ⊥

-- the end holds what it held, and then a front of this text
pub record AppendsFront (text : List ℕ) (old new : Option (List ℕ)) : Type 0 where
  pub front : List ℕ
  pub rest : List ℕ
  pub parts : text ≡ front ++ rest
  pub appended : Appends front old new
