use Rattle.std.proofs.Common.{◌≡◌, length, take, drop}
use Rattle.ql_base.specs.Refusal.{first_of}
use Rattle.ql_expand.specs.View.{binders_of}
use Rattle.ql_scope.specs.Scope.{binders_faults, list_faults, names_at}
use Rattle.ql_scope.specs.CheckWalk.{place_in, seen_under}
use Rattle.ql_scope.proofs.walk.Walk.bind_params.Given as goal

abbrev pub invariant-loop-binder : goal.invariant-loop-binder
invariant-loop-binder l =
    (l.self.stored ≡ l.fn.self.stored)
    × ((l.self.seen ≡ seen_under (binders_of (take l.binder-index l.params)) l.fn.self.seen)
    × (first_of l.self.first (binders_faults l.fn.self.seen.globals (names_at (binders_of (take l.binder-index l.params))) (length (binders_of (take l.binder-index l.params))) (binders_of (drop l.binder-index l.params)))
    ≡ first_of l.fn.self.first (list_faults (place_in l.fn.self.seen) (binders_of l.params))))
