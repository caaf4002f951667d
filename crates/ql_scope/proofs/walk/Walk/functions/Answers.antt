use Rattle.std.proofs.Common.{◌∙◌, ◌<◌, [], ap, arith, length}
use Rattle.std.proofs.lemmas.List.{drop_all}
use Rattle.ql_expand.specs.View.{core_of, binders_of}
use Rattle.ql_scope.specs.Stored.{stored_in, inside}
use Rattle.ql_scope.proofs.Added.{adds_nothing, adds_same, adds_then, drop_is}
use Rattle.ql_scope.proofs.walk.Walk.functions.Goals as goal

pub returns : goal.returns
returns c =
    let none = drop_all c.loop-function.function-index c.args.functions.now c.loop-function-test.false in
    c.loop-function.invariant.1 c.loop-function.self (rw none (adds_nothing c.loop-function.self))

pub loop-function-preserved : goal.loop-function-preserved
loop-function-preserved c =
    let f = c.function-item.result in
    let at : c.loop-function.function-index < length c.args.functions.now = omega arith in
    let here = drop_is c.args.functions.now c.loop-function.function-index f at c.function-item.is in
    let step = rw c.as_slice.ensures at c.in_ok-under_params.ensures in
    let same = adds_same _ _ _ _ (λ s. stored_in (inside (binders_of f.params) []) (core_of f.body)) step
    (ap (λ row. stored_in (inside (binders_of f.params) (inside row [])) (core_of f.body)) c.loop-function.invariant.0) in
    (ap (λ s. s.row) step.seen ∙ c.loop-function.invariant.0, λ w more. c.loop-function.invariant.1 w (rw here (adds_then _ _ _ _ _ _ _ same more)))
