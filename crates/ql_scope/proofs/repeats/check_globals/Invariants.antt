use Rattle.std.proofs.Common.{◌≡◌, [], drop}
use Rattle.ql_base.specs.Refusal.{first_of}
use Rattle.ql_expand.specs.View.{cores_of}
use Rattle.ql_scope.specs.Scope.{names_at, repeated_globals}
use Rattle.ql_scope.proofs.repeats.check_globals.Given as goal

abbrev pub invariant-loop-core : goal.invariant-loop-core
invariant-loop-core l = first_of l.first (repeated_globals (names_at l.before) (cores_of (drop l.core-index l.body))) ≡ first_of l.fn.first (repeated_globals [] (cores_of l.body))
