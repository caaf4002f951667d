-- The counts of a program, and where its assignments may stand.
use Rattle.std.specs.Prelude.{leb, Bool, true, false, ◌&&◌, List, [], ◌∷◌, length}
use Rattle.ql_expand.specs.Core as core
use Rattle.ql_expand.specs.Core.{Name, named, hidden, Core, Node, constant, variable, setq, conditional, progn, binding, primitive, lambda, defvar, Cores, no_cores, and_core, Bounds, no_bounds, and_bound, Function, function, Program}
use Rattle.ql_scope.specs.Scope.{binders_in}
use Rattle.ql_meaning.specs.Context.{functions_of, tops_of}
use Rattle.ql_compile.specs.Compile.{count}

abbrev pub is_named : Name → Bool
is_named (named w) = true
is_named (hidden n) = false

abbrev mutual
  -- it has at most 16 variables and arguments at a place, sets no variable that sugar added, and has no `defvar`
  pub is_sized : Core → Bool
  is_sized (core.core at n) = is_sized_node n

  pub is_sized_node : Node → Bool
  is_sized_node (constant f) = true
  is_sized_node (variable y) = true
  is_sized_node (setq y o c) = is_named y && is_sized c
  is_sized_node (conditional a b c) = is_sized a && (is_sized b && is_sized c)
  is_sized_node (progn cs) = are_sized cs
  is_sized_node (binding bs c) = leb (length (binders_in bs)) 16 && (are_sized_values bs && is_sized c)
  is_sized_node (primitive o cs) = are_sized cs
  is_sized_node (core.print c) = is_sized c
  is_sized_node (core.call f o cs) = are_sized cs
  is_sized_node (core.funcall ignored c cs) = leb (count cs) 16 && (is_sized c && are_sized cs)
  is_sized_node (lambda ps c) = leb (length ps) 16 && is_sized c
  is_sized_node (core.qlet p bs c) = leb (length (binders_in bs)) 16 && (is_sized p && (are_sized_values bs && is_sized c))
  is_sized_node (core.qlambda p ps c) = leb (length ps) 16 && (is_sized p && is_sized c)
  is_sized_node (core.catch a b) = is_sized a && is_sized b
  is_sized_node (core.qcatch a b) = is_sized a && is_sized b
  is_sized_node (core.throw a b) = is_sized a && is_sized b
  is_sized_node (core.protect a b) = is_sized a && is_sized b
  is_sized_node (defvar l o c) = false

  pub are_sized : Cores → Bool
  are_sized no_cores = true
  are_sized (and_core c cs) = is_sized c && are_sized cs

  pub are_sized_values : Bounds → Bool
  are_sized_values no_bounds = true
  are_sized_values (and_bound b c bs) = is_sized c && are_sized_values bs

-- a top form may be a `defvar`
abbrev pub is_sized_top : Core → Bool
is_sized_top (core.core at (defvar l o c)) = is_sized c
is_sized_top c = is_sized c

abbrev pub are_sized_tops : Cores → Bool
are_sized_tops no_cores = true
are_sized_tops (and_core c cs) = is_sized_top c && are_sized_tops cs

abbrev pub are_sized_functions : List Function → Bool
are_sized_functions [] = true
are_sized_functions (function at l o ps c ∷ fs) = (leb (length ps) 16 && is_sized c) && are_sized_functions fs

abbrev pub is_sized_program : Program → Bool
is_sized_program p = are_sized_functions (functions_of p) && are_sized_tops (tops_of p)
