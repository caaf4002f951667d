-- The primitives.
use Rattle.std.specs.Prelude.{ℕ, ◌^◌, ◌==◌, nat_lt, Bool, true, false, not, if◌then◌else◌, ℤ, pos, negsuc, ◌+ℤ◌, ◌-ℤ◌, ◌*ℤ◌, int_lt, int_div, int_rem, List, [], ◌∷◌, Option, Some, None, slice_get}
use Rattle.ql_base.specs.declared.fault.RunFault.TheVariants.{Overflow, NotNumber, NotPair, DivZero}
use Rattle.ql_world.specs.Word.{Word, integer, symbol, pair, nil, is_nil, of_bool, same_integer, identical}
pub use Rattle.ql_world.specs.declared.operator.Operator.{Operator}
pub use Rattle.ql_world.specs.declared.operator.Operator.TheVariants.{Add as add, Subtract as subtract, Multiply as multiply, Truncate as truncate, Remainder as remainder, Equals as equals, IsLess as is_less, IsGreater as is_greater, Eq as eq, Cons as cons, Car as car, Cdr as cdr, Null as null, Atom as atom, Consp as consp, Numberp as numberp, Symbolp as symbolp}
pub use Rattle.ql_world.specs.declared.operator.Computed.{Computed as Result}
pub use Rattle.ql_world.specs.declared.operator.Computed.TheVariants.{Gives as gives, Fails as fails, Joins as joins}

-- each with the number of its symbol among the reserved words
abbrev pub operators : List (ℕ × Operator)
operators =
    (19, cons) ∷ (20, car) ∷ (21, cdr) ∷ (22, eq) ∷ (23, null) ∷ (25, atom) ∷ (26, consp) ∷ (27, numberp) ∷ (28, symbolp) ∷ (29, add)
    ∷ (30, subtract) ∷ (31, multiply) ∷ (32, truncate) ∷ (33, remainder) ∷ (34, equals) ∷ (35, is_less) ∷ (36, is_greater) ∷ []

abbrev pub among_operators : List (ℕ × Operator) → ℕ → Option Operator
among_operators [] n = None
among_operators (o ∷ os) n = if o.0 == n then Some o.1 else among_operators os n

abbrev pub operator_of : ℕ → Option Operator
operator_of = among_operators operators

-- an integer of 64 bits with a sign
abbrev pub fits : ℤ → Bool
fits (pos n) = nat_lt n (2 ^ 63)
fits (negsuc n) = nat_lt n (2 ^ 63)

abbrev pub checked : ℤ → Result
checked z = if fits z then gives (integer z) else fails Overflow

abbrev pub divided : (ℤ → ℤ → ℤ) → ℤ → ℤ → Result
divided f y z = if same_integer z (pos 0) then fails DivZero else checked (f y z)

-- of two integers
abbrev pub of_integers : Operator → ℤ → ℤ → Result
of_integers add y z = checked (y +ℤ z)
of_integers subtract y z = checked (y -ℤ z)
of_integers multiply y z = checked (y *ℤ z)
of_integers truncate y z = divided int_div y z
of_integers remainder y z = divided int_rem y z
of_integers equals y z = gives (of_bool (same_integer y z))
of_integers is_less y z = gives (of_bool (int_lt y z))
of_integers is_greater y z = gives (of_bool (int_lt z y))
of_integers _ y z = fails NotNumber

abbrev pub of_numbers : Operator → Word → Word → Result
of_numbers o (integer y) (integer z) = of_integers o y z
of_numbers o _ _ = fails NotNumber

abbrev pub of_two : Operator → Word → Word → Result
of_two eq a b = gives (of_bool (identical a b))
of_two cons a b = joins a b
of_two o a b = of_numbers o a b

abbrev pub is_pair : Word → Bool
is_pair (pair n) = true
is_pair _ = false

abbrev pub is_number : Word → Bool
is_number (integer z) = true
is_number _ = false

abbrev pub is_name : Word → Bool
is_name (symbol n) = true
is_name _ = false

-- one part of a pair, where it is there
abbrev pub part : (Word × Word → Word) → Option (Word × Word) → Result
part f None = fails NotPair
part f (Some x) = gives (f x)

abbrev pub part_of : List (Word × Word) → (Word × Word → Word) → Word → Result
part_of pairs f (pair n) = part f (slice_get pairs n)
part_of pairs f w = if is_nil w then gives nil else fails NotPair

abbrev pub of_one : List (Word × Word) → Operator → Word → Result
of_one pairs car w = part_of pairs (λ x. x.0) w
of_one pairs cdr w = part_of pairs (λ x. x.1) w
of_one pairs null w = gives (of_bool (is_nil w))
of_one pairs atom w = gives (of_bool (not (is_pair w)))
of_one pairs consp w = gives (of_bool (is_pair w))
of_one pairs numberp w = gives (of_bool (is_number w))
of_one pairs symbolp w = gives (of_bool (is_name w))
of_one pairs o w = fails NotNumber

-- of the operands, where they are one or two
abbrev pub computed : List (Word × Word) → Operator → List Word → Option Result
computed pairs o (a ∷ []) = Some (of_one pairs o a)
computed pairs o (a ∷ b ∷ []) = Some (of_two o a b)
computed pairs o _ = None

-- one or two operands
abbrev pub takes_one : Operator → Bool
takes_one car = true
takes_one cdr = true
takes_one null = true
takes_one atom = true
takes_one consp = true
takes_one numberp = true
takes_one symbolp = true
takes_one _ = false

-- all operands but those of `cons` are touched
abbrev pub touches : Operator → Bool
touches cons = false
touches _ = true

-- it gives a part of its operand
abbrev pub takes_apart : Operator → Bool
takes_apart car = true
takes_apart cdr = true
takes_apart o = false
