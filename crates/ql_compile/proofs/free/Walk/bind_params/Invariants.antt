use Rattle.std.proofs.Common.{◌≡◌, drop}
use Rattle.ql_expand.specs.View.{binders_of}
use Rattle.ql_compile.specs.Free.{with_names}
use Rattle.ql_compile.proofs.free.Walk.bind_params.Given as goal

abbrev pub invariant-loop-binder : goal.invariant-loop-binder
invariant-loop-binder l =
    (l.self-inside.found ≡ l.fn.self.found) × (with_names l.self-inside.bound (binders_of (drop l.binder-index l.params)) ≡ with_names l.fn.self.bound (binders_of l.params))
