-- Which programs can be compiled: each variable is bound above or is a global, each function that is called is there with
-- that many parameters, and each primitive is one, with as many operands as it takes.
use Rattle.std.specs.Prelude.{ℕ, ◌==◌, Bool, true, false, ◌&&◌, ◌||◌, List, [], ◌∷◌, map, Option, Some, None}
use Rattle.ql_expand.specs.Core.{Name, named, hidden, Binder, binder, Core, core, Node, constant, variable, setq, conditional, progn, binding, primitive, print, call, funcall, lambda, qlet, qlambda, catch, qcatch, throw, protect, defvar, Cores, no_cores, and_core, Bounds, no_bounds, and_bound, Function, function, Program, program}
use Rattle.ql_expand.specs.Primitives.{takes, count_of}
use Rattle.ql_scope.specs.Scope.{Head, head_of, is_among, parameter_count, binders_in}
use Rattle.ql_scope.specs.Stored.{inside}

abbrev pub same_name : Name → Name → Bool
same_name (named v) (named w) = v == w
same_name (hidden m) (hidden n) = m == n
same_name _ _ = false

-- The binders above a place are listed from the innermost outwards.
abbrev pub is_bound : List Binder → Name → Bool
is_bound [] y = false
is_bound (binder at x ∷ bs) y = same_name x y || is_bound bs y

abbrev pub is_global : List ℕ → Name → Bool
is_global globals (named w) = is_among w globals
is_global globals (hidden n) = false

-- a variable is bound above its place, or is a global
abbrev pub is_seen : List ℕ → List Binder → Name → Bool
is_seen globals above y = is_bound above y || is_global globals y

-- a function is there, with so many parameters
abbrev pub has_parameters : Option ℕ → ℕ → Bool
has_parameters None n = false
has_parameters (Some m) n = m == n

module _ (functions : List Head) (globals : List ℕ) where
  abbrev mutual
    pub is_right : List Binder → Core → Bool
    is_right above (core at n) = is_right_node above n

    pub is_right_node : List Binder → Node → Bool
    is_right_node above (constant f) = true
    is_right_node above (variable y) = is_seen globals above y
    is_right_node above (setq y o c) = is_seen globals above y && is_right above c
    is_right_node above (conditional a b c) = is_right above a && (is_right above b && is_right above c)
    is_right_node above (progn cs) = are_right above cs
    is_right_node above (binding bs c) = are_right_values above bs && is_right (inside (binders_in bs) above) c
    is_right_node above (primitive o cs) = takes o (count_of cs) && are_right above cs
    is_right_node above (print c) = is_right above c
    is_right_node above (call f o cs) = has_parameters (parameter_count functions f) (count_of cs) && are_right above cs
    is_right_node above (funcall ignored c cs) = is_right above c && are_right above cs
    is_right_node above (lambda ps c) = is_right (inside ps above) c
    is_right_node above (qlet p bs c) = is_right above p && (are_right_values above bs && is_right (inside (binders_in bs) above) c)
    is_right_node above (qlambda p ps c) = is_right above p && is_right (inside ps above) c
    is_right_node above (catch a b) = is_right above a && is_right above b
    is_right_node above (qcatch a b) = is_right above a && is_right above b
    is_right_node above (throw a b) = is_right above a && is_right above b
    is_right_node above (protect a b) = is_right above a && is_right above b
    is_right_node above (defvar w o c) = is_seen globals above (named w) && is_right above c

    pub are_right : List Binder → Cores → Bool
    are_right above no_cores = true
    are_right above (and_core c cs) = is_right above c && are_right above cs

    pub are_right_values : List Binder → Bounds → Bool
    are_right_values above no_bounds = true
    are_right_values above (and_bound b c bs) = is_right above c && are_right_values above bs

  -- the bodies of functions see their parameters alone
  abbrev pub are_right_functions : List Function → Bool
  are_right_functions [] = true
  are_right_functions (function at n o ps c ∷ fs) = is_right (inside ps []) c && are_right_functions fs

abbrev pub is_compilable : Program → Bool
is_compilable (program fs globals cs) =
    are_right_functions (map head_of fs) globals fs && are_right (map head_of fs) globals [] cs
