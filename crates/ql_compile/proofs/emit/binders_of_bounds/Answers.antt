use Rattle.std.proofs.Common.{◌∙◌, ◌+◌, ◌<◌, ◌++◌, ◌∷◌, [], sym, ap, append-nil, append_assoc, arith, length, drop}
use Rattle.std.proofs.lemmas.List.{drop_all, map-append}
use Rattle.ql_expand.specs.View.{binder_of, binders_of, bounds_of}
use Rattle.ql_scope.specs.Scope.{binders_in}
use Rattle.ql_compile.proofs.Rests.{drop_is}
use Rattle.ql_expand.specs.Opened.{bound_opened}
use Rattle.ql_compile.proofs.emit.binders_of_bounds.Goals as goal

pub loop-bound-init : goal.loop-bound-init
loop-bound-init c = ap (λ bs. binders_of bs ++ binders_in (bounds_of c.args.binds.now)) c.in_ok-binders.ensures.items

pub loop-bound-preserved : goal.loop-bound-preserved
loop-bound-preserved c =
    let i = c.loop-bound.bound-index in
    let at : i < length c.args.binds.now = omega arith in
    let here = drop_is c.args.binds.now i c.bound-item.result at c.bound-item.is in
    let b = binder_of c.bound-item.result.binder in
    let rest = binders_in (bounds_of (drop (i + 1) c.args.binds.now)) in
    ap (λ bs. binders_of bs ++ rest) c.in_ok-push.ensures.items
    ∙ (ap (λ bs. bs ++ rest) (map-append binder_of c.loop-bound.binders.items (c.bound-item.result.binder ∷ []))
    ∙ (append_assoc (binders_of c.loop-bound.binders.items) (b ∷ []) rest ∙ (rw (here, bound_opened c.bound-item.result) at c.loop-bound.invariant)))

pub returns : goal.returns
returns c =
    let none = drop_all c.loop-bound.bound-index c.args.binds.now c.loop-bound-test.false in
    sym (append-nil (binders_of c.loop-bound.binders.items)) ∙ (rw none at c.loop-bound.invariant)
