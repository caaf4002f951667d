use Rattle.std.proofs.Common.{◌≡◌, length, take, drop}
use Rattle.ql_base.specs.Refusal.{first_of}
use Rattle.ql_expand.specs.View.{bounds_of}
use Rattle.ql_scope.specs.Scope.{binders_faults, binders_in, list_faults, names_at}
use Rattle.ql_scope.specs.CheckWalk.{place_in, seen_under}
use Rattle.ql_scope.proofs.walk.Walk.bind_variables.Given as goal

abbrev pub invariant-loop-bound : goal.invariant-loop-bound
invariant-loop-bound l =
    (l.self.stored ≡ l.fn.self.stored)
    × ((l.self.seen ≡ seen_under (binders_in (bounds_of (take l.bound-index l.binds))) l.fn.self.seen)
    × (first_of l.self.first (binders_faults l.fn.self.seen.globals (names_at (binders_in (bounds_of (take l.bound-index l.binds)))) (length (binders_in (bounds_of (take l.bound-index l.binds)))) (binders_in (bounds_of (drop l.bound-index l.binds))))
    ≡ first_of l.fn.self.first (list_faults (place_in l.fn.self.seen) (binders_in (bounds_of l.binds)))))
