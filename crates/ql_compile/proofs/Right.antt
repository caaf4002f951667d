-- What the simulation needs of a core, a function and the top forms.
use Rattle.std.specs.Prelude.{ℕ, ◌≡◌, true, List, [], ◌∷◌, length, Some}
use Rattle.ql_expand.specs.Core as core
use Rattle.ql_expand.specs.Core.{Name, named, hidden, Core, Node, constant, variable, setq, conditional, progn, binding, primitive, lambda, defvar, Cores, no_cores, and_core, Bounds, no_bounds, and_bound, Function}
use Rattle.ql_world.specs.Operator.{operator_of}
use Rattle.ql_world.specs.declared.operator.Operator.{Operator}
use Rattle.ql_meaning.specs.Context.{place_of, parameters_of, body_of, function_called}
use Rattle.ql_compile.specs.Compile.{is_name_among, without_all, free, count}
use Rattle.ql_code.specs.Machine.{operand_count}

abbrev pub IsGlobal : List ℕ → Name → Type 0
IsGlobal globals (named w) = (g : ℕ) × (place_of globals w ≡ Some g)
IsGlobal globals (hidden n) = ⊥

-- each of these variables is a global
abbrev pub AreGlobal : List ℕ → List Name → Type 0
AreGlobal globals xs = (y : Name) → is_name_among y xs ≡ true → IsGlobal globals y

-- a function of this name is there, with so many parameters
abbrev pub IsFunction : List Function → ℕ → ℕ → Type 0
IsFunction functions w n = (f : Function) × (function_called functions w ≡ Some f) × (length (parameters_of f) ≡ n)

-- a primitive with this symbol takes so many operands
abbrev pub IsPrimitive : ℕ → ℕ → Type 0
IsPrimitive s n = (o : Operator) × (operator_of s ≡ Some o) × (operand_count (Some o) ≡ n)

module _ (functions : List Function) where
  abbrev mutual
    -- its calls and primitives have the operands that they take
    pub IsRight : Core → Type 0
    IsRight (core.core at n) = IsRightNode n

    pub IsRightNode : Node → Type 0
    IsRightNode (constant f) = Unit {0}
    IsRightNode (variable y) = Unit {0}
    IsRightNode (setq y o c) = IsRight c
    IsRightNode (conditional a b c) = IsRight a × IsRight b × IsRight c
    IsRightNode (progn cs) = AreRight cs
    IsRightNode (binding bs c) = AreRightValues bs × IsRight c
    IsRightNode (primitive o cs) = IsPrimitive o (count cs) × AreRight cs
    IsRightNode (core.print c) = IsRight c
    IsRightNode (core.call f o cs) = IsFunction functions f (count cs) × AreRight cs
    IsRightNode (core.funcall ignored c cs) = IsRight c × AreRight cs
    IsRightNode (lambda ps c) = IsRight c
    IsRightNode (core.qlet p bs c) = IsRight p × AreRightValues bs × IsRight c
    IsRightNode (core.qlambda p ps c) = IsRight p × IsRight c
    IsRightNode (core.catch a b) = IsRight a × IsRight b
    IsRightNode (core.qcatch a b) = IsRight a × IsRight b
    IsRightNode (core.throw a b) = IsRight a × IsRight b
    IsRightNode (core.protect a b) = IsRight a × IsRight b
    IsRightNode (defvar w o c) = IsRight c

    pub AreRight : Cores → Type 0
    AreRight no_cores = Unit {0}
    AreRight (and_core c cs) = IsRight c × AreRight cs

    pub AreRightValues : Bounds → Type 0
    AreRightValues no_bounds = Unit {0}
    AreRightValues (and_bound b c bs) = IsRight c × AreRightValues bs

-- its free variables are its parameters or globals
abbrev pub IsRightFunction : List Function → List ℕ → Function → Type 0
IsRightFunction functions globals f =
    IsRight functions (body_of f) × AreGlobal globals (without_all (parameters_of f) (free (body_of f)))

abbrev pub AreRightFunctions : List Function → List ℕ → List Function → Type 0
AreRightFunctions functions globals [] = Unit {0}
AreRightFunctions functions globals (f ∷ fs) = IsRightFunction functions globals f × AreRightFunctions functions globals fs
