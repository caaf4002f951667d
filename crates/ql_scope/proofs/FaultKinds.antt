-- What is wrong with the names of a program has kinds of its own.
use Rattle.std.proofs.Common.{◌≡◌, ℕ, ◌+◌, ◌≤◌, ◌==◌, List, [], ◌∷◌, ◌++◌, Option, Some, None, arith}
use Rattle.std.specs.Prelude.{Bool, ◌||◌}
use Rattle.ql_base.specs.Kinds.{AreWithin, no_fault, and_fault, joined, either, told_within}
use Rattle.ql_base.specs.Refusal.{where_true}
use Rattle.ql_base.specs.declared.refusal.Fault.{Fault}
use Rattle.ql_expand.specs.Core.{Name, named, hidden, Binder, binder, Core, core, Node, constant, variable, setq, conditional, progn, binding, primitive, print, call, funcall, lambda, qlet, qlambda, catch, qcatch, throw, protect, defvar, Cores, no_cores, and_core, Bounds, no_bounds, and_bound, Function, function, Program, program}
use Rattle.ql_expand.specs.Primitives.{count_of}
use Rattle.ql_scope.specs.Scope.{most, is_among, Place, parameter_count, name_at, binders_in, under, use_faults, count_faults, twice_faults, seventeenth_faults, called_faults, offset_of, binders_faults, list_faults, core_at, core_faults, node_faults, cores_faults, arguments_faults, values_faults, repeated_functions, global_at, repeated_global, repeated_globals, functions_faults, top, program_faults, scope_fault}

-- Each of these faults is of a kind of names.
abbrev OfNames : List Fault → Type 0
OfNames fs = AreWithin 12 18 fs

when : (b : Bool) {xs : List Fault} → OfNames xs → OfNames (where_true b xs)
when b h = either b h no_fault

-- ---- names and lists of them

use_kinds : (p : Place) (at : ℕ) (v : Name) → OfNames (use_faults p at v)
use_kinds p at (hidden n) = no_fault
use_kinds p at (named w) = either (is_among w p.variables || is_among w p.globals) no_fault (and_fault (omega arith) (omega arith) no_fault)

count_kinds : (at arguments : ℕ) (o : Option ℕ) → OfNames (count_faults at arguments o)
count_kinds at arguments None = and_fault (omega arith) (omega arith) no_fault
count_kinds at arguments (Some n) = either (arguments == n) no_fault (and_fault (omega arith) (omega arith) no_fault)

twice_kinds : (before : List ℕ) (at w : ℕ) → OfNames (twice_faults before at w)
twice_kinds before at w = when (is_among w before) (and_fault (omega arith) (omega arith) no_fault)

seventeenth_kinds : (n at : ℕ) → OfNames (seventeenth_faults n at)
seventeenth_kinds n at = when (n == most) (and_fault (omega arith) (omega arith) no_fault)

called_kinds : (globals before : List ℕ) (b : Binder) → OfNames (called_faults globals before b)
called_kinds globals before (binder at (hidden n)) = no_fault
called_kinds globals before (binder at (named w)) = joined (twice_kinds before at w) (when (is_among w globals) (and_fault (omega arith) (omega arith) no_fault))

binders_kinds : (globals before : List ℕ) (n : ℕ) (bs : List Binder) → OfNames (binders_faults globals before n bs)
binders_kinds globals before n [] = no_fault
binders_kinds globals before n (b ∷ bs) =
    joined (joined (seventeenth_kinds n (offset_of b)) (called_kinds globals before b)) (binders_kinds globals (before ++ name_at b) (n + 1) bs)

-- ---- along a program

-- the binders of one list, and a core under them
scope_kinds : (p : Place) (bs : List Binder) (c : Core) → OfNames (core_faults (under bs p) c) → OfNames (list_faults p bs ++ core_faults (under bs p) c)
scope_kinds p bs c h = joined (binders_kinds p.globals [] 0 bs) h

mutual
  core_kinds : (p : Place) (c : Core) → OfNames (core_faults p c)
  core_kinds p (core at n) = node_kinds p at n

  node_kinds : (p : Place) (at : ℕ) (n : Node) → OfNames (node_faults p at n)
  node_kinds p at (constant f) = no_fault
  node_kinds p at (variable v) = use_kinds p at v
  node_kinds p at (setq v named_at c) = joined (use_kinds p named_at v) (core_kinds p c)
  node_kinds p at (conditional a b c) = joined (core_kinds p a) (joined (core_kinds p b) (core_kinds p c))
  node_kinds p at (progn cs) = cores_kinds p cs
  node_kinds p at (binding bs c) = joined (values_kinds p bs) (scope_kinds p (binders_in bs) c (core_kinds (under (binders_in bs) p) c))
  node_kinds p at (primitive o cs) = cores_kinds p cs
  node_kinds p at (print c) = core_kinds p c
  node_kinds p at (call w named_at cs) = joined (count_kinds named_at (count_of cs) (parameter_count p.functions w)) (cores_kinds p cs)
  node_kinds p at (funcall ignored c cs) = joined (core_kinds p c) (arguments_kinds p 0 cs)
  node_kinds p at (lambda bs c) = scope_kinds p bs c (core_kinds (under bs p) c)
  node_kinds p at (qlet q bs c) = joined (core_kinds p q) (joined (values_kinds p bs) (scope_kinds p (binders_in bs) c (core_kinds (under (binders_in bs) p) c)))
  node_kinds p at (qlambda q bs c) = joined (core_kinds p q) (scope_kinds p bs c (core_kinds (under bs p) c))
  node_kinds p at (catch a b) = joined (core_kinds p a) (core_kinds p b)
  node_kinds p at (qcatch a b) = joined (core_kinds p a) (core_kinds p b)
  node_kinds p at (throw a b) = joined (core_kinds p a) (core_kinds p b)
  node_kinds p at (protect a b) = joined (core_kinds p a) (core_kinds p b)
  node_kinds p at (defvar w named_at c) = core_kinds p c

  cores_kinds : (p : Place) (cs : Cores) → OfNames (cores_faults p cs)
  cores_kinds p no_cores = no_fault
  cores_kinds p (and_core c cs) = joined (core_kinds p c) (cores_kinds p cs)

  arguments_kinds : (p : Place) (n : ℕ) (cs : Cores) → OfNames (arguments_faults p n cs)
  arguments_kinds p n no_cores = no_fault
  arguments_kinds p n (and_core c cs) = joined (seventeenth_kinds n (core_at c)) (joined (core_kinds p c) (arguments_kinds p (n + 1) cs))

  values_kinds : (p : Place) (bs : Bounds) → OfNames (values_faults p bs)
  values_kinds p no_bounds = no_fault
  values_kinds p (and_bound b c bs) = joined (core_kinds p c) (values_kinds p bs)

repeated_function_kinds : (before : List ℕ) (fs : List Function) → OfNames (repeated_functions before fs)
repeated_function_kinds before [] = no_fault
repeated_function_kinds before (function at w named_at bs body ∷ fs) = joined (twice_kinds before named_at w) (repeated_function_kinds (before ++ w ∷ []) fs)

repeated_global_kinds : (before : List ℕ) (at : ℕ) (n : Node) → OfNames (repeated_global before (core at n))
repeated_global_kinds before at (defvar w named_at c) = twice_kinds before named_at w
repeated_global_kinds before at n = no_fault

repeated_globals_kinds : (before : List ℕ) (cs : Cores) → OfNames (repeated_globals before cs)
repeated_globals_kinds before no_cores = no_fault
repeated_globals_kinds before (and_core (core at n) cs) = joined (repeated_global_kinds before at n) (repeated_globals_kinds (before ++ global_at (core at n)) cs)

functions_kinds : (p : Place) (fs : List Function) → OfNames (functions_faults p fs)
functions_kinds p [] = no_fault
functions_kinds p (function at w named_at bs body ∷ fs) = joined (scope_kinds p bs body (core_kinds (under bs p) body)) (functions_kinds p fs)

program_kinds : (p : Program) → OfNames (program_faults p)
program_kinds (program fs globals cs) =
    joined (repeated_function_kinds [] fs) (joined (repeated_globals_kinds [] cs) (joined (functions_kinds (top fs globals) fs) (cores_kinds (top fs globals) cs)))

pub kinds_of_names : (p : Program) (at kind : ℕ) → scope_fault p ≡ Some (at, kind) → (12 ≤ kind) × (kind ≤ 18)
kinds_of_names p at kind e = told_within (program_faults p) at kind (program_kinds p) e
