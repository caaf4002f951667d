-- Programs whose primitives are ones, with as many operands as they take, and whose numbers are all those of names.
use Rattle.std.specs.Prelude.{ℕ, ◌+◌, ◌==◌, Bool, true, false, ◌&&◌, nat_lt, if◌then◌else◌, List}
use Rattle.std.specs.List.{list_all}
use Rattle.ql_forms.specs.Form.{Form, form_below}
use Rattle.ql_expand.specs.Core.{Name, named, hidden, Binder, binder, Core, core, Node, constant, variable, setq, conditional, progn, binding, primitive, print, call, funcall, lambda, qlet, qlambda, catch, qcatch, throw, protect, defvar, Cores, no_cores, and_core, Bounds, no_bounds, and_bound, Function, function, Program, program}
use Rattle.ql_expand.specs.Operator.{operator_of, takes_two}
use Rattle.ql_expand.specs.declared.operator.Operator.{Operator}
use Rattle.ql_expand.specs.declared.operator.Operator.TheVariants.{Unary}

abbrev pub takes_one : Operator → Bool
takes_one Unary = true
takes_one _ = false

abbrev pub count_of : Cores → ℕ
count_of no_cores = 0
count_of (and_core c cs) = count_of cs + 1

-- whether the number is that of a primitive which takes so many operands
abbrev pub takes : ℕ → ℕ → Bool
takes n k = if k == 1 then takes_one (operator_of n) else (k == 2 && takes_two (operator_of n))

-- the variable of a source has a number that passes the test
abbrev pub name_passes : (ℕ → Bool) → Name → Bool
name_passes number (named n) = number n
name_passes number (hidden n) = true

abbrev pub binder_passes : (ℕ → Bool) → Binder → Bool
binder_passes number (binder at v) = name_passes number v

-- with a test of the numbers, and one of the constants
module _ (number : ℕ → Bool) (datum : Form → Bool) where
  abbrev mutual
    -- whether each number and each constant in a core passes, and each primitive is one, with as many operands as it takes
    pub core_passes : Core → Bool
    core_passes (core at n) = node_passes n

    pub node_passes : Node → Bool
    node_passes (constant f) = datum f
    node_passes (variable v) = name_passes number v
    node_passes (setq v named_at c) = name_passes number v && core_passes c
    node_passes (conditional a b c) = core_passes a && (core_passes b && core_passes c)
    node_passes (progn cs) = cores_pass cs
    node_passes (binding bs c) = bounds_pass bs && core_passes c
    node_passes (primitive o cs) = number o && (takes o (count_of cs) && cores_pass cs)
    node_passes (print c) = core_passes c
    node_passes (call f named_at cs) = number f && cores_pass cs
    node_passes (funcall ignored c cs) = core_passes c && cores_pass cs
    node_passes (lambda bs c) = list_all (binder_passes number) bs && core_passes c
    node_passes (qlet p bs c) = core_passes p && (bounds_pass bs && core_passes c)
    node_passes (qlambda p bs c) = core_passes p && (list_all (binder_passes number) bs && core_passes c)
    node_passes (catch a b) = core_passes a && core_passes b
    node_passes (qcatch a b) = core_passes a && core_passes b
    node_passes (throw a b) = core_passes a && core_passes b
    node_passes (protect a b) = core_passes a && core_passes b
    node_passes (defvar v named_at c) = number v && core_passes c

    pub cores_pass : Cores → Bool
    cores_pass no_cores = true
    cores_pass (and_core c cs) = core_passes c && cores_pass cs

    pub bounds_pass : Bounds → Bool
    bounds_pass no_bounds = true
    bounds_pass (and_bound b c bs) = binder_passes number b && (core_passes c && bounds_pass bs)

  abbrev pub function_passes : Function → Bool
  function_passes (function at n named_at bs c) = number n && (list_all (binder_passes number) bs && core_passes c)

  abbrev pub program_passes : Program → Bool
  program_passes (program fs globals cs) = list_all function_passes fs && (list_all number globals && cores_pass cs)

-- Its primitives are right, and each number is below this count of names.
abbrev pub program_below : ℕ → Program → Bool
program_below count = program_passes (λ n. nat_lt n count) (form_below count)

-- Its primitives are right, whatever its numbers.
abbrev pub program_has_primitives : Program → Bool
program_has_primitives = program_passes (λ n. true) (λ f. true)
