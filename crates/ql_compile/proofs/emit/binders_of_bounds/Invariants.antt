use Rattle.std.proofs.Common.{◌≡◌, ◌++◌, drop}
use Rattle.ql_expand.specs.View.{binders_of, bounds_of}
use Rattle.ql_scope.specs.Scope.{binders_in}
use Rattle.ql_compile.proofs.emit.binders_of_bounds.Given as goal

abbrev pub invariant-loop-bound : goal.invariant-loop-bound
invariant-loop-bound l = binders_of l.binders.items ++ binders_in (bounds_of (drop l.bound-index l.binds)) ≡ binders_in (bounds_of l.binds)
