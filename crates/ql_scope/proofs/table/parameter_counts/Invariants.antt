use Rattle.std.proofs.Common.{◌≡◌, ℕ, ◌≤◌, None, get_or, drop, length, map}
use Rattle.ql_expand.specs.View.{function_of}
use Rattle.ql_scope.specs.Scope.{head_of, parameter_count}
use Rattle.ql_scope.proofs.table.parameter_counts.Given as goal

abbrev pub invariant-loop-rest : goal.invariant-loop-rest
invariant-loop-rest l = (l.rest ≤ length l.functions) × ((n : ℕ) → get_or l.table.items n None ≡ parameter_count (map head_of (map function_of (drop l.rest l.functions))) n)

abbrev pub decreases-loop-rest : goal.decreases-loop-rest
decreases-loop-rest l = l.rest
