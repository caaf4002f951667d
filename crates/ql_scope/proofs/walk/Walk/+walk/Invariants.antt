use Rattle.std.proofs.Common.{drop}
use Rattle.ql_expand.specs.View.{cores_of, bounds_of}
use Rattle.ql_scope.specs.Scope.{cores_faults, arguments_faults, values_faults}
use Rattle.ql_scope.specs.Stored.{stored_in_cores, stored_in_values}
use Rattle.ql_scope.specs.CheckWalk.{Walk, Adds, above, place_in}
use Rattle.ql_scope.proofs.walk.Walk.+walk.Given as goal

-- What the rest adds, the whole adds.
abbrev pub invariant-cores-loop-core : goal.invariant-cores-loop-core
invariant-cores-loop-core l =
    (w : Walk) → Adds l.self w (λ s. cores_faults (place_in s) (cores_of (drop l.core-index l.cores))) (λ s. stored_in_cores (above s) (cores_of (drop l.core-index l.cores)))
    → Adds l.fn.self w (λ s. cores_faults (place_in s) (cores_of l.cores)) (λ s. stored_in_cores (above s) (cores_of l.cores))

abbrev pub invariant-arguments-loop-i : goal.invariant-arguments-loop-i
invariant-arguments-loop-i l =
    (w : Walk) → Adds l.self w (λ s. arguments_faults (place_in s) l.i (cores_of (drop l.i l.cores))) (λ s. stored_in_cores (above s) (cores_of (drop l.i l.cores)))
    → Adds l.fn.self w (λ s. arguments_faults (place_in s) 0 (cores_of l.cores)) (λ s. stored_in_cores (above s) (cores_of l.cores))

abbrev pub invariant-values-loop-bound : goal.invariant-values-loop-bound
invariant-values-loop-bound l =
    (w : Walk) → Adds l.self w (λ s. values_faults (place_in s) (bounds_of (drop l.bound-index l.binds))) (λ s. stored_in_values (above s) (bounds_of (drop l.bound-index l.binds)))
    → Adds l.fn.self w (λ s. values_faults (place_in s) (bounds_of l.binds)) (λ s. stored_in_values (above s) (bounds_of l.binds))
