-- A walk over places and starts, which decides whether code is sound.
use Rattle.std.specs.Prelude.{ℕ, zero, suc, ◌+◌, ◌-◌, ◌==◌, Bool, true, false, ◌&&◌, if◌then◌else◌, List, [], ◌∷◌, ◌++◌, length, Option, Some, None, slice_get}
use Rattle.ql_code.specs.Code.{Op, qlet, Instruction, FunEntry, Code}
use Rattle.ql_code.specs.Sound.{same_part, Shape, Start, main, body, child, Target, target, over, variables, is_mask, are_constant, after, slots_in, first_place, is_same_kind, starts_at, joins_there}

abbrev pub same_start : Start → Start → Bool
same_start main main = true
same_start (body l) (body m) = l == m
same_start (child l own) (child m k) = (l == m) && (own == k)
same_start s r = false

abbrev pub same_shape : Shape → Shape → Bool
same_shape [] [] = true
same_shape (p ∷ sh) (q ∷ sh') = same_part p q && same_shape sh sh'
same_shape sh sh' = false

abbrev pub same_place : Start → ℕ → Start → ℕ → Bool
same_place s pc r q = same_start s r && (pc == q)

-- the shape of a place among what was walked
abbrev pub shape_in : List Target → Start → ℕ → Option Shape
shape_in [] s pc = None
shape_in (t ∷ ts) s pc = if same_place t.start t.place s pc then Some t.shape else shape_in ts s pc

abbrev pub met : {X : Type 0} → Option Shape → Shape → Option X → Option X → Option X
met None sh known new = new
met (Some sh') sh known new = if same_shape sh' sh then known else None

abbrev pub onwards : {X Y : Type 0} → Option X → (X → Option Y) → Option Y
onwards None f = None
onwards (Some x) f = f x

-- from what was walked and what is still to do, with so many places left at most
abbrev pub walk : Code → ℕ → List Target → List Target → Option (List Target)
walk code n known [] = Some known
walk code zero known (t ∷ ts) = met (shape_in known t.start t.place) t.shape (walk code zero known ts) None
walk code (suc n) known (t ∷ ts) =
    met (shape_in known t.start t.place) t.shape (walk code (suc n) known ts)
    (onwards (after code t.start t.place t.shape (slice_get code.instructions t.place)) (λ us. walk code n (t ∷ known) (us ++ ts)))

-- where frames begin
abbrev pub entered : List FunEntry → List Target
entered [] = []
entered (e ∷ es) = target (body e.place) e.place (over (variables e.params e.mask) []) ∷ entered es

abbrev pub begun : Code → List Target
begun code = target main 0 [] ∷ entered code.entries

-- the starts that code may name
abbrev pub children_of : (touched : ℕ) → List ℕ → List Start
children_of t [] = []
children_of t (l ∷ []) = child l (t - 2) ∷ []
children_of t (l ∷ (k ∷ ls)) = child l (k - 1) ∷ children_of t (k ∷ ls)

abbrev pub named_by : Op → List Start
named_by (qlet ls t b) = children_of t ls
named_by o = []

abbrev pub starts_from : ℕ → List Instruction → List Start
starts_from pc [] = []
starts_from pc (i ∷ is) = body (pc + 1) ∷ named_by i.op ++ starts_from (pc + 1) is

abbrev pub entry_starts : List FunEntry → List Start
entry_starts [] = []
entry_starts (e ∷ es) = body e.place ∷ entry_starts es

abbrev pub starts_of : Code → List Start
starts_of code = main ∷ entry_starts code.entries ++ starts_from 0 code.instructions

-- all places of all starts
abbrev pub Places : Type 0
Places = List (Start × ℕ)

abbrev pub places_from : Start → ℕ → Places
places_from s zero = []
places_from s (suc n) = (s, n) ∷ places_from s n

abbrev pub all_places : List Start → ℕ → Places
all_places [] n = []
all_places (s ∷ ss) n = places_from s n ++ all_places ss n

abbrev pub are_masks : List FunEntry → Bool
are_masks [] = true
are_masks (e ∷ es) = is_mask e.params e.mask && are_masks es

-- what is walked of a code, if nothing in it is amiss
abbrev pub walked : Code → Option (List Target)
walked code = if are_masks code.entries && are_constant 0 code.quoted then walk code (length (all_places (starts_of code) (length code.instructions))) [] (begun code) else None

-- what strict code has, of a place that was walked and of two of them
abbrev pub same_slots : Target → Target → Bool
same_slots t u = if t.place == u.place then same_shape (slots_in t.shape) (slots_in u.shape) else true

abbrev pub begins : Target → Bool
begins t = first_place t.start == t.place

abbrev pub are_apart : Target → Target → Bool
are_apart t u = if begins t && (begins u && (t.place == u.place)) then is_same_kind t.start u.start else true

abbrev pub has_head : Code → Target → Bool
has_head code t = if begins t then starts_at (slice_get code.instructions t.place) else true

abbrev pub joins_for : Code → Start → Bool
joins_for code (child pc own) = joins_there (slice_get code.instructions own)
joins_for code s = true

abbrev pub has_join : Code → Target → Bool
has_join code t = if begins t then joins_for code t.start else true

abbrev pub all_of : (Target → Bool) → List Target → Bool
all_of f [] = true
all_of f (t ∷ ts) = f t && all_of f ts

abbrev pub is_strict : Code → List Target → Bool
is_strict code ts = all_of (λ t. (has_head code t && has_join code t) && all_of (λ u. same_slots t u && are_apart t u) ts) ts

abbrev pub is_strict_walk : Code → Option (List Target) → Bool
is_strict_walk code None = false
is_strict_walk code (Some ts) = is_strict code ts

-- the check that a loader makes
abbrev pub is_valid : Code → Bool
is_valid code = is_strict_walk code (walked code)
