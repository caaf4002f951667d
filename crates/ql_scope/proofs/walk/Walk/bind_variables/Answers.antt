use Rattle.std.proofs.Common.{◌∙◌, ◌+◌, ◌<◌, ◌++◌, ◌∷◌, [], ap, sym, arith, length, map, take, drop}
use Rattle.ql_expand.specs.View.{binder_of, bounds_of}
use Rattle.ql_expand.specs.declared.core_form.Bound.{Bound}
use Rattle.ql_scope.specs.Scope.{binders_in}
use Rattle.ql_scope.proofs.Added.{bound_one, drop_is, map_more}
use Rattle.ql_scope.proofs.Listed.{variables_are}
use Rattle.ql_scope.proofs.walk.Walk.bind_variables.Goals as goal

pub loop-bound-preserved : goal.loop-bound-preserved
loop-bound-preserved c =
    let i = c.loop-bound.bound-index in
    let bs = c.args.binds.now in
    let x = c.bound-item.result in
    let at : i < length bs = omega arith in
    let done = binders_in (bounds_of (take i bs)) in
    let rest = binders_in (bounds_of (drop (i + 1) bs)) in
    let F = λ (b : Bound). binder_of b.binder in
    bound_one c.depth-outer.result c.args.self.now c.loop-bound.self c.bind.new.self done (binders_in (bounds_of (take (i + 1) bs))) (binders_in (bounds_of (drop i bs))) rest (binder_of x.binder) _
    c.loop-bound.invariant.0 c.loop-bound.invariant.1.0 c.loop-bound.invariant.1.1 c.in_ok-bind.ensures.stored c.in_ok-bind.ensures.seen c.in_ok-bind.ensures.first c.depth-outer.ensures
    (variables_are (take (i + 1) bs) ∙ (map_more F bs i x at c.bound-item.is ∙ ap (λ ys. ys ++ binder_of x.binder ∷ []) (sym (variables_are (take i bs)))))
    (variables_are (drop i bs) ∙ (ap (map F) (drop_is bs i x at c.bound-item.is) ∙ ap (λ ys. binder_of x.binder ∷ ys) (sym (variables_are (drop (i + 1) bs)))))
