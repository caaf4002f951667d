-- The core that is made of cores made before. It serves the proofs.
use Rattle.std.specs.Prelude.{ℕ, Bool, true, false, if◌then◌else◌}
use Rattle.ql_base.specs.Reserved.{number}
use Rattle.ql_base.specs.declared.reserved.Reserved.TheVariants.{Null, Greater, Less, Cons, True}
use Rattle.ql_forms.specs.Form.{Atom, atom, integer, symbol}
use Rattle.ql_expand.specs.Core.{named, hidden, Binder, binder, Core, core, Cores, no_cores, and_core, Bounds, no_bounds, and_bound, constant, variable, conditional, binding, primitive, call, catch, qcatch, throw, protect}
use Rattle.ql_expand.specs.Expands.{nil_at, number_at}
use Rattle.ql_expand.specs.Operator.{operator_of, is_constant}
use Rattle.ql_expand.specs.declared.operator.Operator.{Operator}
use Rattle.ql_expand.specs.declared.operator.Operator.TheVariants.{Catch, Qcatch, Throw, Protect, When, Unless, Sum, Difference, Product, Not, AtMost, AtLeast, And, Or, LetStar, List as ListOf, Call}

abbrev pub nil_core : ℕ → Core
nil_core at = core at (constant (nil_at at))

abbrev pub number_core : ℕ → ℕ → Core
number_core at n = core at (constant (number_at at n))

-- an atom that stands alone
abbrev pub atom_core : ℕ → Atom → Core
atom_core at (integer z) = core at (constant (atom at (integer z)))
atom_core at (symbol w) = core at (if is_constant (operator_of w) then constant (atom at (symbol w)) else variable (named w))

abbrev pub with_one : ℕ → ℕ → Core → Core
with_one at w c = core at (primitive w (and_core c no_cores))

abbrev pub with_two : ℕ → ℕ → Core → Core → Core
with_two at w c e = core at (primitive w (and_core c (and_core e no_cores)))

abbrev pub one_bound : Binder → Core → Bounds
one_bound b c = and_bound b c no_bounds

-- the first core, or else the second
abbrev pub either : ℕ → Core → Core → Core
either at c e = core at (binding (one_bound (binder at (hidden 0)) c)
    (core at (conditional (core at (variable (hidden 0))) (core at (variable (hidden 0))) e)))

-- a form before the rest of `and`, `or` and `list`
abbrev pub linked : Operator → ℕ → Core → Core → Core
linked And at c rest = core at (conditional c rest (nil_core at))
linked Or at c rest = either at c rest
linked _ at c rest = with_two at (number Cons) c rest

abbrev pub chain : Operator → ℕ → Cores → Core → Core
chain o at no_cores rest = rest
chain o at (and_core c cs) rest = linked o at c (chain o at cs rest)

-- `and` and `or` of no forms
abbrev pub of_none : Operator → ℕ → Core
of_none And at = core at (constant (atom at (symbol (number True))))
of_none _ at = nil_core at

abbrev pub all_linked : Operator → ℕ → Cores → Core
all_linked o at no_cores = of_none o at
all_linked o at (and_core c no_cores) = c
all_linked o at (and_core c cs) = linked o at c (all_linked o at cs)

-- operands of an operator of two, from the left
abbrev pub folded : ℕ → ℕ → Core → Cores → Core
folded at w c no_cores = c
folded at w c (and_core e cs) = folded at w (with_two at w c e) cs

-- operands of an operator of two, with the number that stands before a single one
abbrev pub operands : ℕ → ℕ → ℕ → Cores → Core
operands at w n (and_core c (and_core e cs)) = folded at w c (and_core e cs)
operands at w n cs = folded at w (number_core at n) cs

-- a body under bindings of which each sees those before it
abbrev pub under : ℕ → Bounds → Core → Core
under at no_bounds c = c
under at (and_bound b e bs) c = core at (binding (one_bound b e) (under at bs c))

abbrev pub nested : ℕ → Bounds → Core → Core
nested at no_bounds c = core at (binding no_bounds c)
nested at bs c = under at bs c

-- bindings and a body, of `let` where the operator isn't `let*`
abbrev pub let_core : Operator → ℕ → Bounds → Core → Core
let_core LetStar at bs c = nested at bs c
let_core _ at bs c = core at (binding bs c)

-- a form and a body: of `when`, where it is none of these
abbrev pub before_body : Operator → ℕ → Core → Core → Core
before_body Catch at c e = core at (catch c e)
before_body Qcatch at c e = core at (qcatch c e)
before_body Throw at c e = core at (throw c e)
before_body Protect at c e = core at (protect c e)
before_body Unless at c e = core at (conditional c (nil_core at) e)
before_body _ at c e = core at (conditional c e (nil_core at))

-- forms by themselves: of a primitive, where it is none of these
abbrev pub of_each : Operator → (at operator_at word : ℕ) → Cores → Core
of_each Sum at o w cs = operands at w 0 cs
of_each Difference at o w cs = operands at w 0 cs
of_each Product at o w cs = operands at w 1 cs
of_each Not at o w cs = core at (primitive (number Null) cs)
of_each AtMost at o w cs = with_one at (number Null) (core at (primitive (number Greater) cs))
of_each AtLeast at o w cs = with_one at (number Null) (core at (primitive (number Less) cs))
of_each And at o w cs = all_linked And at cs
of_each Or at o w cs = all_linked Or at cs
of_each ListOf at o w cs = chain ListOf at cs (nil_core at)
of_each Call at o w cs = core at (call w o cs)
of_each _ at o w cs = core at (primitive w cs)

-- whether a form and a body stand after this operator
abbrev pub has_body : Operator → Bool
has_body Catch = true
has_body Qcatch = true
has_body Throw = true
has_body Protect = true
has_body When = true
has_body Unless = true
has_body _ = false
