-- What the checks of names and counts let through, as compiling sees it.
use Rattle.std.proofs.Common.{◌≡◌, ℕ, ◌≤◌, Bool, true, ◌∷◌, length, Option, Some, None}
use Rattle.std.specs.Prelude.{nat_lt}
use Rattle.ql_expand.specs.Core as core
use Rattle.ql_expand.specs.Core.{Name, named, hidden, Binder, Core, Node, constant, variable, setq, conditional, progn, binding, primitive, lambda, defvar, Cores, no_cores, and_core, Bounds, no_bounds, and_bound, Function}
use Rattle.ql_scope.specs.Scope.{binders_in}
use Rattle.ql_world.specs.Operator.{operator_of}
use Rattle.ql_world.specs.declared.operator.Operator.{Operator}
use Rattle.ql_meaning.specs.Context.{Context, place_of, or_zero, constant_word, parameters_of}
use Rattle.ql_code.specs.Code.{Code}
use Rattle.ql_code.specs.Machine.{operand_count}
use Rattle.ql_compile.specs.Compile.{Scope, Places, find_in, count, body_scope, place_called, mask}
use Rattle.ql_code.specs.Sound.{is_constant, is_entry}
use Rattle.ql_compile.proofs.Noted.{inner_scope}

module _ (k : Code) (x : Context) (places : Places) where
  abbrev pub IsGlobal : Name → Type 0
  IsGlobal (named l) = nat_lt (or_zero (place_of x.globals l)) k.globals ≡ true
  IsGlobal (hidden n) = ⊥

  abbrev pub Readable : Option (ℕ × Bool) → Name → Type 0
  Readable (Some v) y = Unit {0}
  Readable None y = IsGlobal y

  abbrev pub Writable : Option (ℕ × Bool) → Name → Type 0
  Writable (Some v) y = v.1 ≡ true
  Writable None y = IsGlobal y

  abbrev pub IsCalled : Option (Function × ℕ) → ℕ → Type 0
  IsCalled None n = ⊥
  IsCalled (Some f) n = is_entry k.entries f.1 n (mask x (parameters_of f.0)) ≡ true

  abbrev pub IsPrimitive : ℕ → ℕ → Type 0
  IsPrimitive s n = (o : Operator) × (operator_of s ≡ Some o) × (operand_count (Some o) ≡ n)

  abbrev mutual
    pub Fine : Scope → Core → Type 0
    Fine sc (core.core at n) = FineNode sc n

    pub FineNode : Scope → Node → Type 0
    FineNode sc (constant f) = is_constant (length k.quoted) (constant_word x f) ≡ true
    FineNode sc (variable y) = Readable (find_in sc y) y
    FineNode sc (setq y o c) = Writable (find_in sc y) y × Fine sc c
    FineNode sc (conditional a b c) = Fine sc a × Fine sc b × Fine sc c
    FineNode sc (progn cs) = FineForms sc cs
    FineNode sc (binding bs c) = FineValues sc bs × (length (binders_in bs) ≤ 16) × Fine (inner_scope x places (binders_in bs) sc) c
    FineNode sc (primitive o cs) = FineCores sc cs × IsPrimitive o (count cs)
    FineNode sc (core.print c) = Fine sc c
    FineNode sc (core.call f o cs) = FineCores sc cs × IsCalled (place_called places f) (count cs)
    FineNode sc (core.funcall ignored c cs) = Fine sc c × FineCores (None ∷ sc) cs × (count cs ≤ 16)
    FineNode sc (lambda ps c) = (length ps ≤ 16) × Fine (body_scope x sc ps c) c
    FineNode sc (core.qlet p bs c) = Fine sc p × FineValues sc bs × (length (binders_in bs) ≤ 16) × Fine (inner_scope x places (binders_in bs) sc) c
    FineNode sc (core.qlambda p ps c) = Fine sc p × (length ps ≤ 16) × Fine (body_scope x sc ps c) c
    FineNode sc (core.catch a b) = Fine sc a × Fine sc b
    FineNode sc (core.qcatch a b) = Fine sc a × Fine sc b
    FineNode sc (core.throw a b) = Fine sc a × Fine (None ∷ sc) b
    FineNode sc (core.protect a b) = Fine sc a × Fine (None ∷ sc) b
    FineNode sc (defvar l o c) = Writable (find_in sc (named l)) (named l) × Fine sc c

    -- operands, each of which stays on the stack
    pub FineCores : Scope → Cores → Type 0
    FineCores sc no_cores = Unit {0}
    FineCores sc (and_core c cs) = Fine sc c × FineCores (None ∷ sc) cs

    pub FineValues : Scope → Bounds → Type 0
    FineValues sc no_bounds = Unit {0}
    FineValues sc (and_bound b c bs) = Fine sc c × FineValues (None ∷ sc) bs

    pub FineForms : Scope → Cores → Type 0
    FineForms sc no_cores = Unit {0}
    FineForms sc (and_core c cs) = Fine sc c × FineForms sc cs
