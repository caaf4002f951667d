use Rattle.std.proofs.Common.{◌≡◌, ◌<◌, ap, arith, length}
use Rattle.std.proofs.lemmas.List.{drop_all}
use Rattle.ql_expand.specs.View.{core_of, binders_of, bounds_of}
use Rattle.ql_scope.specs.Scope.{binders_in, core_at}
use Rattle.ql_scope.proofs.Added.{adds_nothing, adds_then, then_more, under_binders, drop_is}
use Rattle.ql_expand.specs.Opened.{opened, bound_opened, node_opened}
use Rattle.ql_expand.specs.declared.core_form.Node.TheVariants.{outs-Setq, outs-If, outs-Let, outs-Call, outs-Funcall, outs-Qlet, outs-Qlambda, outs-Catch, outs-Qcatch, outs-Throw, outs-Protect}
use Rattle.ql_scope.proofs.walk.Walk.+walk.Goals as goal

pub core-returns : goal.core-returns
core-returns g c = rw (opened c.args.core.now) c.node.ensures

pub cores-returns : goal.cores-returns
cores-returns g c =
    let none = drop_all c.loop-core.core-index c.args.cores.now c.loop-core-test.false in
    c.loop-core.invariant c.loop-core.self (rw none (adds_nothing c.loop-core.self))

pub cores-loop-core-preserved : goal.cores-loop-core-preserved
cores-loop-core-preserved g c w more =
    let at : c.loop-core.core-index < length c.args.cores.now = omega arith in
    let here = drop_is c.args.cores.now c.loop-core.core-index c.core-item.result at c.core-item.is in
    c.loop-core.invariant w (rw here (adds_then _ _ _ _ _ _ _ c.in_ok-core.ensures more))

pub arguments-returns : goal.arguments-returns
arguments-returns g c =
    let none = drop_all c.loop-i.i c.args.cores.now c.loop-i-test.false in
    c.loop-i.invariant c.loop-i.self (rw none (adds_nothing c.loop-i.self))

pub arguments-loop-i-preserved : goal.arguments-loop-i-preserved
arguments-loop-i-preserved g c w more =
    let at : c.loop-i.i < length c.args.cores.now = omega arith in
    let here = drop_is c.args.cores.now c.loop-i.i c.index-cores-i.result at c.index-cores-i.is in
    let place : core_at (core_of c.index-cores-i.result) ≡ c.index-cores-i.result.at.0 = ap core_at (opened c.index-cores-i.result) in
    c.loop-i.invariant w (rw (here, place) (adds_then _ _ _ _ _ _ _ c.find_if.ensures (adds_then _ _ _ _ _ _ _ c.in_ok-core.ensures more)))

pub values-returns : goal.values-returns
values-returns g c =
    let none = drop_all c.loop-bound.bound-index c.args.binds.now c.loop-bound-test.false in
    c.loop-bound.invariant c.loop-bound.self (rw none (adds_nothing c.loop-bound.self))

pub values-loop-bound-preserved : goal.values-loop-bound-preserved
values-loop-bound-preserved g c w more =
    let at : c.loop-bound.bound-index < length c.args.binds.now = omega arith in
    let here = drop_is c.args.binds.now c.loop-bound.bound-index c.bound-item.result at c.bound-item.is in
    c.loop-bound.invariant w (rw (here, bound_opened c.bound-item.result) (adds_then _ _ _ _ _ _ _ c.in_ok-core.ensures more))

pub under_params-returns : goal.under_params-returns
under_params-returns g c =
    under_binders (binders_of c.args.params.now) (core_of c.args.body.now) c.args.self.now c.bind_params.new.self c.core.new.self c.leave.new.self
    c.in_ok-bind_params.ensures.first c.in_ok-bind_params.ensures.stored c.in_ok-bind_params.ensures.seen c.in_ok-core.ensures
    (rw c.depth-outer.ensures at c.leave.ensures)

pub under_variables-returns : goal.under_variables-returns
under_variables-returns g c =
    under_binders (binders_in (bounds_of c.args.binds.now)) (core_of c.args.body.now) c.args.self.now c.bind_variables.new.self c.core.new.self c.leave.new.self
    c.in_ok-bind_variables.ensures.first c.in_ok-bind_variables.ensures.stored c.in_ok-bind_variables.ensures.seen c.in_ok-core.ensures
    (rw c.depth-outer.ensures at c.leave.ensures)

pub node-returns-in_ok-set-in-Setq : goal.node-returns-in_ok-set-in-Setq
node-returns-in_ok-set-in-Setq g c =
    let step = then_more c.core.result _ _ _ _ _ _ _ c.in_ok-set-in-Setq.ensures c.core.ensures in
    rw (c.in-Setq.is, node_opened, outs-Setq) (rw (c.get.ensures) at step)

pub node-returns-in_ok-core-in-If-2 : goal.node-returns-in_ok-core-in-If-2
node-returns-in_ok-core-in-If-2 g c =
    let step = then_more c.core-in-If-3.result _ _ _ _ _ _ _ c.in_ok-core-in-If.ensures (then_more c.core-in-If-3.result _ _ _ _ _ _ _ c.in_ok-core-in-If-2.ensures c.core-in-If-3.ensures) in
    rw (c.in-If.is, node_opened, outs-If) (rw (c.get-in-If.ensures, c.get-in-If-2.ensures, c.get-in-If-3.ensures) at step)

pub node-returns-in_ok-values-in-Let : goal.node-returns-in_ok-values-in-Let
node-returns-in_ok-values-in-Let g c =
    let step = then_more c.under_variables.result _ _ _ _ _ _ _ c.in_ok-values-in-Let.ensures c.under_variables.ensures in
    rw (c.in-Let.is, node_opened, outs-Let) (rw (c.as_slice-in-Let.ensures, c.get-in-Let.ensures, c.as_slice-in-Let-2.ensures) at step)

pub node-returns-in-Call : goal.node-returns-in-Call
node-returns-in-Call g c =
    let step = then_more c.cores-in-Call.result _ _ _ _ _ _ _ c.called.ensures c.cores-in-Call.ensures in
    rw (c.in-Call.is, node_opened, outs-Call) (rw (c.as_slice-in-Call.ensures, c.as_slice-in-Call-2.ensures) at step)

pub node-returns-in_ok-core-in-Funcall : goal.node-returns-in_ok-core-in-Funcall
node-returns-in_ok-core-in-Funcall g c =
    let step = then_more c.arguments.result _ _ _ _ _ _ _ c.in_ok-core-in-Funcall.ensures c.arguments.ensures in
    rw (c.in-Funcall.is, node_opened, outs-Funcall) (rw (c.get-in-Funcall.ensures, c.as_slice-in-Funcall.ensures) at step)

pub node-returns-in_ok-values-in-Qlet : goal.node-returns-in_ok-values-in-Qlet
node-returns-in_ok-values-in-Qlet g c =
    let step = then_more c.under_variables-in-Qlet.result _ _ _ _ _ _ _ c.in_ok-core-in-Qlet.ensures (then_more c.under_variables-in-Qlet.result _ _ _ _ _ _ _ c.in_ok-values-in-Qlet.ensures c.under_variables-in-Qlet.ensures) in
    rw (c.in-Qlet.is, node_opened, outs-Qlet) (rw (c.get-in-Qlet.ensures, c.as_slice-in-Qlet.ensures, c.get-in-Qlet-2.ensures, c.as_slice-in-Qlet-2.ensures) at step)

pub node-returns-in_ok-core-in-Qlambda : goal.node-returns-in_ok-core-in-Qlambda
node-returns-in_ok-core-in-Qlambda g c =
    let step = then_more c.under_params-in-Qlambda.result _ _ _ _ _ _ _ c.in_ok-core-in-Qlambda.ensures c.under_params-in-Qlambda.ensures in
    rw (c.in-Qlambda.is, node_opened, outs-Qlambda) (rw (c.get-in-Qlambda.ensures, c.get-in-Qlambda-2.ensures, c.as_slice-in-Qlambda.ensures) at step)

pub node-returns-in_ok-core-in-Catch : goal.node-returns-in_ok-core-in-Catch
node-returns-in_ok-core-in-Catch g c =
    let step = then_more c.core-in-Catch-2.result _ _ _ _ _ _ _ c.in_ok-core-in-Catch.ensures c.core-in-Catch-2.ensures in
    rw (c.in-Catch.is, node_opened, outs-Catch) (rw (c.get-in-Catch.ensures, c.get-in-Catch-2.ensures) at step)

pub node-returns-in_ok-core-in-Qcatch : goal.node-returns-in_ok-core-in-Qcatch
node-returns-in_ok-core-in-Qcatch g c =
    let step = then_more c.core-in-Qcatch-2.result _ _ _ _ _ _ _ c.in_ok-core-in-Qcatch.ensures c.core-in-Qcatch-2.ensures in
    rw (c.in-Qcatch.is, node_opened, outs-Qcatch) (rw (c.get-in-Qcatch.ensures, c.get-in-Qcatch-2.ensures) at step)

pub node-returns-in_ok-core-in-Throw : goal.node-returns-in_ok-core-in-Throw
node-returns-in_ok-core-in-Throw g c =
    let step = then_more c.core-in-Throw-2.result _ _ _ _ _ _ _ c.in_ok-core-in-Throw.ensures c.core-in-Throw-2.ensures in
    rw (c.in-Throw.is, node_opened, outs-Throw) (rw (c.get-in-Throw.ensures, c.get-in-Throw-2.ensures) at step)

pub node-returns-in_ok-core-in-Protect : goal.node-returns-in_ok-core-in-Protect
node-returns-in_ok-core-in-Protect g c =
    let step = then_more c.core-in-Protect-2.result _ _ _ _ _ _ _ c.in_ok-core-in-Protect.ensures c.core-in-Protect-2.ensures in
    rw (c.in-Protect.is, node_opened, outs-Protect) (rw (c.get-in-Protect.ensures, c.get-in-Protect-2.ensures) at step)
