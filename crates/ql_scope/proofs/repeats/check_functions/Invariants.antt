use Rattle.std.proofs.Common.{◌≡◌, [], map, drop}
use Rattle.ql_base.specs.Refusal.{first_of}
use Rattle.ql_expand.specs.View.{function_of}
use Rattle.ql_scope.specs.Scope.{names_at, repeated_functions}
use Rattle.ql_scope.proofs.repeats.check_functions.Given as goal

abbrev pub invariant-loop-function : goal.invariant-loop-function
invariant-loop-function l =
    first_of l.first (repeated_functions (names_at l.before) (map function_of (drop l.function-index l.functions))) ≡ first_of l.fn.first (repeated_functions [] (map function_of l.functions))
