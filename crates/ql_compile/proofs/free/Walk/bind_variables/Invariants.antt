use Rattle.std.proofs.Common.{◌≡◌, drop}
use Rattle.ql_expand.specs.View.{bounds_of}
use Rattle.ql_scope.specs.Scope.{binders_in}
use Rattle.ql_compile.specs.Free.{with_names}
use Rattle.ql_compile.proofs.free.Walk.bind_variables.Given as goal

abbrev pub invariant-loop-bound : goal.invariant-loop-bound
invariant-loop-bound l =
    (l.self-inside.found ≡ l.fn.self.found) × (with_names l.self-inside.bound (binders_in (bounds_of (drop l.bound-index l.binds))) ≡ with_names l.fn.self.bound (binders_in (bounds_of l.binds)))
