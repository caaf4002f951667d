-- Faults of a source, and the first of them.
use Rattle.std.specs.Prelude.{◌≡◌, refl, ℕ, Bool, true, false, if◌then◌else◌, ◌||◌, ◌&&◌, ◌==◌, ltb, List, [], ◌∷◌, ◌++◌, Option, Some, None, option_map}
use Rattle.ql_base.specs.declared.refusal.Fault.{Fault}
use Rattle.ql_base.specs.declared.refusal.FaultKind.{FaultKind}
use Rattle.ql_base.specs.declared.refusal.FaultKind.TheVariants.{BadByte, StrayClose, BadDot, BadNumber, LongName, TooDeep, TooLong, Unfinished, BadShape, BadTop, ReservedName, Unbound, NoFunction, Twice, WrongCount, Shadow, TooMany, CodeTooLong}

abbrev pub number_of : FaultKind → ℕ
number_of BadByte = 1
number_of StrayClose = 2
number_of BadDot = 3
number_of BadNumber = 4
number_of LongName = 5
number_of TooDeep = 6
number_of TooLong = 7
number_of Unfinished = 8
number_of BadShape = 9
number_of BadTop = 10
number_of ReservedName = 11
number_of Unbound = 12
number_of NoFunction = 13
number_of Twice = 14
number_of WrongCount = 15
number_of Shadow = 17
number_of TooMany = 18
number_of CodeTooLong = 19

-- this one fault, at this offset
abbrev pub fault : FaultKind → ℕ → List Fault
fault kind at = record { at = record { 0 = at }; kind = kind } ∷ []

abbrev pub where_true : Bool → List Fault → List Fault
where_true b faults = if b then faults else []

abbrev pub unless : Bool → List Fault → List Fault
unless b faults = if b then [] else faults

-- whether the second is the sooner
abbrev pub is_sooner : Fault → Fault → Bool
is_sooner f g = ltb g.at.0 f.at.0 || (g.at.0 == f.at.0 && ltb (number_of g.kind) (number_of f.kind))

-- the one with the lesser offset, and at one offset the one of the lower kind
abbrev pub sooner : Option Fault → Option Fault → Option Fault
sooner None g = g
sooner (Some f) None = Some f
sooner (Some f) (Some g) = if is_sooner f g then Some g else Some f

-- the first of one that was found before and these
abbrev pub first_of : Option Fault → List Fault → Option Fault
first_of f [] = f
first_of f (g ∷ gs) = first_of (sooner f (Some g)) gs

-- the first of these
abbrev pub least : List Fault → Option Fault
least fs = first_of None fs

-- as an offset and the number of a kind
abbrev pub told : Option Fault → Option (ℕ × ℕ)
told f = option_map (λ g. (g.at.0, number_of g.kind)) f

-- The first of some and then more is that of the more and the first of the some.
pub first_appended : (f : Option Fault) (xs ys : List Fault) → first_of f (xs ++ ys) ≡ first_of (first_of f xs) ys
first_appended f [] ys = refl
first_appended f (x ∷ xs) ys = first_appended (sooner f (Some x)) xs ys

some_stays : (gs : List Fault) (b : Bool) (f g : Fault) → first_of (if b then Some g else Some f) gs ≡ None → ⊥
some_stays [] true f g h = cc
some_stays [] false f g h = cc
some_stays (k ∷ gs) true f g h = some_stays gs (is_sooner g k) g k h
some_stays (k ∷ gs) false f g h = some_stays gs (is_sooner f k) f k h

-- Where no fault is the first, there is none.
pub none_found : (gs : List Fault) → least gs ≡ None → gs ≡ []
none_found [] h = refl
none_found (g ∷ gs) h = absurd (some_stays gs false g g h)
