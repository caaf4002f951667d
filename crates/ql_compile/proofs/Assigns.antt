-- Where a program assigns: each `setq` names a variable of the source, and `defvar` is a top form alone.
use Rattle.std.specs.Prelude.{Bool, true, false, ◌&&◌, List, [], ◌∷◌}
use Rattle.ql_expand.specs.Core.{Core, core, Node, constant, variable, setq, conditional, progn, binding, primitive, print, call, funcall, lambda, qlet, qlambda, catch, qcatch, throw, protect, defvar, Cores, no_cores, and_core, Bounds, no_bounds, and_bound, Function, function, Program, program}
use Rattle.ql_compile.proofs.Sized.{is_named}

abbrev mutual
  pub assigns : Core → Bool
  assigns (core at n) = node_assigns n

  pub node_assigns : Node → Bool
  node_assigns (constant f) = true
  node_assigns (variable y) = true
  node_assigns (setq y o c) = is_named y && assigns c
  node_assigns (conditional a b c) = assigns a && (assigns b && assigns c)
  node_assigns (progn cs) = all_assign cs
  node_assigns (binding bs c) = values_assign bs && assigns c
  node_assigns (primitive o cs) = all_assign cs
  node_assigns (print c) = assigns c
  node_assigns (call f o cs) = all_assign cs
  node_assigns (funcall ignored c cs) = assigns c && all_assign cs
  node_assigns (lambda ps c) = assigns c
  node_assigns (qlet p bs c) = assigns p && (values_assign bs && assigns c)
  node_assigns (qlambda p ps c) = assigns p && assigns c
  node_assigns (catch a b) = assigns a && assigns b
  node_assigns (qcatch a b) = assigns a && assigns b
  node_assigns (throw a b) = assigns a && assigns b
  node_assigns (protect a b) = assigns a && assigns b
  node_assigns (defvar l o c) = false

  pub all_assign : Cores → Bool
  all_assign no_cores = true
  all_assign (and_core c cs) = assigns c && all_assign cs

  pub values_assign : Bounds → Bool
  values_assign no_bounds = true
  values_assign (and_bound b c bs) = assigns c && values_assign bs

-- a top form may be a `defvar`
abbrev pub top_assigns : Core → Bool
top_assigns (core at (defvar l o c)) = assigns c
top_assigns c = assigns c

abbrev pub tops_assign : Cores → Bool
tops_assign no_cores = true
tops_assign (and_core c cs) = top_assigns c && tops_assign cs

abbrev pub functions_assign : List Function → Bool
functions_assign [] = true
functions_assign (function at l o ps c ∷ fs) = assigns c && functions_assign fs

abbrev pub program_assigns : Program → Bool
program_assigns (program fs globals cs) = functions_assign fs && tops_assign cs
