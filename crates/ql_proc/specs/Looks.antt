-- Marks near the top of a stack, and the first of a list.
use Rattle.std.specs.Prelude.{◌≡◌, List, [], ◌∷◌, Option, Some, None}
use Rattle.ql_code.specs.declared.mark.Mark.{Mark}
use Rattle.ql_code.specs.Machine.{Item, slot, mark}

-- the topmost item, where it is a mark
abbrev pub mark_on : List Item → Option Mark
mark_on (mark k ∷ st) = Some k
mark_on st = None

-- the item under the topmost slot, where it is a mark
abbrev pub mark_under : List Item → Option Mark
mark_under (slot s ∷ st) = mark_on st
mark_under st = None

-- the first of a list, and none where that is empty
abbrev pub IsFirst : {A : Type 0} → Option A → List A → Type 0
IsFirst None xs = xs ≡ []
IsFirst {A = A} (Some x) xs = (rest : List A) × (xs ≡ x ∷ rest)
