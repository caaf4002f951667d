use Rattle.std.proofs.Common.{◌≡◌, [], drop, map}
use Rattle.ql_expand.specs.View.{function_of}
use Rattle.ql_scope.specs.Scope.{functions_faults}
use Rattle.ql_scope.specs.Stored.{stored_in_functions}
use Rattle.ql_scope.specs.CheckWalk.{Walk, Adds, place_in}
use Rattle.ql_scope.proofs.walk.Walk.functions.Given as goal

-- What the rest adds, the whole adds.
abbrev pub invariant-loop-function : goal.invariant-loop-function
invariant-loop-function l =
    (l.self.seen.row ≡ [])
    × ((w : Walk) → Adds l.self w (λ s. functions_faults (place_in s) (map function_of (drop l.function-index l.functions))) (λ s. stored_in_functions (map function_of (drop l.function-index l.functions)))
    → Adds l.fn.self w (λ s. functions_faults (place_in s) (map function_of l.functions)) (λ s. stored_in_functions (map function_of l.functions)))
