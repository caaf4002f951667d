-- Which programs can be compiled, as the proofs take it apart.
use Rattle.std.specs.Prelude.{ℕ, ◌==◌, Bool, true, false, ◌&&◌, ◌||◌, List, [], ◌∷◌, length, Option, Some, None, is_some}
use Rattle.ql_expand.specs.Core as core
use Rattle.ql_expand.specs.Core.{Name, named, hidden, Binder, Core, Node, constant, variable, setq, conditional, progn, binding, primitive, lambda, defvar, Cores, no_cores, and_core, Bounds, no_bounds, and_bound, Function, Program}
use Rattle.ql_scope.specs.Scope.{binders_in}
use Rattle.ql_scope.specs.Stored.{inside}
use Rattle.ql_world.specs.Operator.{operator_of}
use Rattle.ql_world.specs.declared.operator.Operator.{Operator}
use Rattle.ql_meaning.specs.Context.{same_name, name_of, place_of, parameters_of, body_of, function_called, functions_of, globals_of, tops_of}
use Rattle.ql_compile.specs.Compile.{count}
use Rattle.ql_code.specs.Machine.{operand_count}

-- The binders above a place are listed from the innermost outwards.
abbrev pub is_bound : List Binder → Name → Bool
is_bound [] y = false
is_bound (b ∷ bs) y = same_name (name_of b) y || is_bound bs y

abbrev pub is_global : List ℕ → Name → Bool
is_global globals (named w) = is_some (place_of globals w)
is_global globals (hidden n) = false

-- a variable is bound above its place, or is a global
abbrev pub is_seen : List ℕ → List Binder → Name → Bool
is_seen globals above y = is_bound above y || is_global globals y

-- a function is there, with so many parameters
abbrev pub has_parameters : Option Function → ℕ → Bool
has_parameters None n = false
has_parameters (Some f) n = length (parameters_of f) == n

-- a primitive is there, which takes so many operands
abbrev pub has_operands : Option Operator → ℕ → Bool
has_operands None n = false
has_operands (Some o) n = operand_count (Some o) == n

module _ (functions : List Function) (globals : List ℕ) where
  abbrev mutual
    -- its variables are seen, and its calls and primitives have as many operands as they take
    pub is_right : List Binder → Core → Bool
    is_right above (core.core at n) = is_right_node above n

    pub is_right_node : List Binder → Node → Bool
    is_right_node above (constant f) = true
    is_right_node above (variable y) = is_seen globals above y
    is_right_node above (setq y o c) = is_seen globals above y && is_right above c
    is_right_node above (conditional a b c) = is_right above a && (is_right above b && is_right above c)
    is_right_node above (progn cs) = are_right above cs
    is_right_node above (binding bs c) = are_right_values above bs && is_right (inside (binders_in bs) above) c
    is_right_node above (primitive o cs) = has_operands (operator_of o) (count cs) && are_right above cs
    is_right_node above (core.print c) = is_right above c
    is_right_node above (core.call f o cs) = has_parameters (function_called functions f) (count cs) && are_right above cs
    is_right_node above (core.funcall ignored c cs) = is_right above c && are_right above cs
    is_right_node above (lambda ps c) = is_right (inside ps above) c
    is_right_node above (core.qlet p bs c) = is_right above p && (are_right_values above bs && is_right (inside (binders_in bs) above) c)
    is_right_node above (core.qlambda p ps c) = is_right above p && is_right (inside ps above) c
    is_right_node above (core.catch a b) = is_right above a && is_right above b
    is_right_node above (core.qcatch a b) = is_right above a && is_right above b
    is_right_node above (core.throw a b) = is_right above a && is_right above b
    is_right_node above (core.protect a b) = is_right above a && is_right above b
    is_right_node above (defvar w o c) = is_seen globals above (named w) && is_right above c

    pub are_right : List Binder → Cores → Bool
    are_right above no_cores = true
    are_right above (and_core c cs) = is_right above c && are_right above cs

    pub are_right_values : List Binder → Bounds → Bool
    are_right_values above no_bounds = true
    are_right_values above (and_bound b c bs) = is_right above c && are_right_values above bs

  -- the bodies of functions see their parameters alone
  abbrev pub are_right_functions : List Function → Bool
  are_right_functions [] = true
  are_right_functions (f ∷ fs) = is_right (inside (parameters_of f) []) (body_of f) && are_right_functions fs

abbrev pub is_compilable : Program → Bool
is_compilable p =
    are_right_functions (functions_of p) (globals_of p) (functions_of p) && are_right (functions_of p) (globals_of p) [] (tops_of p)
