-- The core that values stand for.
use Rattle.std.specs.Prelude.{List, [], ◌∷◌, map}
use Rattle.ql_forms.specs.Form.{Form, atom}
use Rattle.ql_forms.specs.View.{atom_of, form_of}
use Rattle.ql_expand.specs.Core as spec
use Rattle.ql_expand.specs.Core.{Name, named, hidden, binder, core, Cores, no_cores, and_core, Bounds, no_bounds, and_bound, constant, variable, setq, conditional, progn, binding, primitive, print, call, funcall, lambda, qlet, qlambda, catch, qcatch, throw, protect, defvar, function}
use Rattle.ql_expand.specs.declared.core_form.Constant.{Constant}
use Rattle.ql_expand.specs.declared.core_form.Constant.TheVariants.{Spelled, Atom}
use Rattle.ql_expand.specs.declared.core_form.VarName.{VarName}
use Rattle.ql_expand.specs.declared.core_form.VarName.TheVariants.{Sym, Hidden}
use Rattle.ql_expand.specs.declared.core_form.Binder.{Binder}
use Rattle.ql_expand.specs.declared.core_form.Core.{Core}
use Rattle.ql_expand.specs.declared.core_form.Bound.{Bound}
use Rattle.ql_expand.specs.declared.core_form.Node.{Node, fold-Node}
use Rattle.ql_expand.specs.declared.core_form.Node.TheFolds.{fold-Core, fold-Bound}
use Rattle.ql_expand.specs.declared.core_form.Node.TheOpen.{Node-F, Core-F, Bound-F}
use Rattle.ql_expand.specs.declared.core_form.Function.{Function}

abbrev pub name_of : VarName → Name
name_of (Sym n) = named n
name_of (Hidden n) = hidden n

abbrev pub binder_of : Binder → spec.Binder
binder_of b = binder b.at.0 (name_of b.name)

abbrev pub binders_of : List Binder → List spec.Binder
binders_of bs = map binder_of bs

abbrev pub in_order : List spec.Core → Cores
in_order [] = no_cores
in_order (c ∷ cs) = and_core c (in_order cs)

abbrev pub bounds_in_order : List (spec.Binder × spec.Core) → Bounds
bounds_in_order [] = no_bounds
bounds_in_order (b ∷ bs) = and_bound b.0 b.1 (bounds_in_order bs)

abbrev pub constant_of : Constant → Form
constant_of (Spelled f) = form_of f.now
constant_of (Atom at a) = atom at.0 (atom_of a)

-- one level, with each core inside already seen
abbrev pub node_step : Node-F spec.Node (spec.Binder × spec.Core) spec.Core → spec.Node
node_step (Node-F.Const c) = constant (constant_of c)
node_step (Node-F.Var v) = variable (name_of v)
node_step (Node-F.Setq v at c) = setq (name_of v) at.0 c
node_step (Node-F.If a b c) = conditional a b c
node_step (Node-F.Progn cs) = progn (in_order cs)
node_step (Node-F.Let bs c) = binding (bounds_in_order bs) c
node_step (Node-F.Prim op cs) = primitive op (in_order cs)
node_step (Node-F.Print c) = print c
node_step (Node-F.Call n at cs) = call n at.0 (in_order cs)
node_step (Node-F.Funcall ignored c cs) = funcall ignored c (in_order cs)
node_step (Node-F.Lambda ps c) = lambda (binders_of ps) c
node_step (Node-F.Qlet p bs c) = qlet p (bounds_in_order bs) c
node_step (Node-F.Qlambda p ps c) = qlambda p (binders_of ps) c
node_step (Node-F.Catch a b) = catch a b
node_step (Node-F.Qcatch a b) = qcatch a b
node_step (Node-F.Throw a b) = throw a b
node_step (Node-F.Protect a b) = protect a b
node_step (Node-F.Defvar n at c) = defvar n at.0 c

abbrev pub bound_step : Bound-F spec.Node (spec.Binder × spec.Core) spec.Core → spec.Binder × spec.Core
bound_step b = (binder_of b.binder, b.value)

abbrev pub core_step : Core-F spec.Node (spec.Binder × spec.Core) spec.Core → spec.Core
core_step c = core c.at.0 c.node

abbrev pub node_of : Node → spec.Node
node_of = fold-Node spec.Node (spec.Binder × spec.Core) spec.Core node_step bound_step core_step

abbrev pub core_of : Core → spec.Core
core_of = fold-Core spec.Node (spec.Binder × spec.Core) spec.Core node_step bound_step core_step

-- a variable and its first value
abbrev pub bound_of : Bound → spec.Binder × spec.Core
bound_of = fold-Bound spec.Node (spec.Binder × spec.Core) spec.Core node_step bound_step core_step

abbrev pub cores_of : List Core → Cores
cores_of cs = in_order (map core_of cs)

abbrev pub bounds_of : List Bound → Bounds
bounds_of bs = bounds_in_order (map bound_of bs)

abbrev pub function_of : Function → spec.Function
function_of f = function f.at.0 f.name f.named.0 (binders_of f.params) (core_of f.body)
