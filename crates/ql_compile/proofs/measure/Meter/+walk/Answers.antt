use Rattle.std.proofs.Common.{◌≡◌, ◌+◌, ◌<◌, ◌++◌, ◌∷◌, [], ap, arith, drop, length}
use Rattle.ql_expand.specs.View.{bounds_of, core_of, cores_of}
use Rattle.ql_meaning.specs.Context.{offset_of}
use Rattle.ql_compile.proofs.Rests.{drop_is}
use Rattle.ql_expand.specs.Opened.{opened, bound_opened, node_opened}
use Rattle.ql_expand.specs.declared.core_form.Node.TheVariants.{outs-Setq, outs-If, outs-Let, outs-Prim, outs-Call, outs-Funcall, outs-Qlet, outs-Qlambda, outs-Catch, outs-Qcatch, outs-Throw, outs-Protect}
use Rattle.ql_compile.specs.Measure.{offsets_of, offsets_of_cores, offsets_of_forms, offsets_of_joined, offsets_of_values}
use Rattle.ql_compile.proofs.Measuring.{counted_append, counted_next, counted_step, forms_more}
use Rattle.ql_compile.proofs.measure.Meter.+walk.Goals as goal

pub around-returns : goal.around-returns
around-returns t c = grind (arith, counted_append)

pub operator-returns : goal.operator-returns
operator-returns t c = rw counted_append cc

pub cores-loop-core-preserved : goal.cores-loop-core-preserved
cores-loop-core-preserved t c =
    let at : c.loop-core.core-index < length c.args.cores.now = omega arith in
    let here = drop_is c.args.cores.now c.loop-core.core-index c.core-item.result at c.core-item.is in
    counted_next c.loop-core.self c.core.new.self _ (offsets_of (core_of c.core-item.result)) (offsets_of_cores (cores_of (drop (c.loop-core.core-index + 1) c.args.cores.now)))
    c.core.ensures (rw here at c.loop-core.invariant)

pub values-loop-bound-preserved : goal.values-loop-bound-preserved
values-loop-bound-preserved t c =
    let at : c.loop-bound.bound-index < length c.args.binds.now = omega arith in
    let here = drop_is c.args.binds.now c.loop-bound.bound-index c.bound-item.result at c.bound-item.is in
    counted_next c.loop-bound.self c.core.new.self _ (offsets_of (core_of c.bound-item.result.value)) (offsets_of_values (bounds_of (drop (c.loop-bound.bound-index + 1) c.args.binds.now)))
    c.core.ensures (rw (here, bound_opened c.bound-item.result) at c.loop-bound.invariant)

pub joined-loop-bound-preserved : goal.joined-loop-bound-preserved
joined-loop-bound-preserved t c =
    let at : c.loop-bound.bound-index < length c.args.binds.now = omega arith in
    let here = drop_is c.args.binds.now c.loop-bound.bound-index c.bound-item.result at c.bound-item.is in
    let place : offset_of (core_of c.bound-item.result.value) ≡ c.bound-item.result.value.at.0 = ap offset_of (opened c.bound-item.result.value) in
    counted_step c.loop-bound.self c.core.new.self c.step.new.self _ (offsets_of (core_of c.bound-item.result.value)) (offsets_of_joined (bounds_of (drop (c.loop-bound.bound-index + 1) c.args.binds.now)))
    c.bound-item.result.value.at.0 c.core.ensures c.step.ensures (rw (here, bound_opened c.bound-item.result, place) at c.loop-bound.invariant)

pub forms-loop-form-preserved : goal.forms-loop-form-preserved
forms-loop-form-preserved t c =
    let i = c.loop-form.form-index in
    let x = c.form-item.result in
    let last = c.in-Some.last.now in
    let at : i < length c.in-Some.others.now = omega arith in
    let here = drop_is c.in-Some.others.now i x at c.form-item.is in
    let place : offset_of (core_of x) ≡ x.at.0 = ap offset_of (opened x) in
    counted_step c.loop-form.self c.core.new.self c.step-in-loop-form.new.self _ (offsets_of (core_of x)) (offsets_of_forms c.args.at.0 (cores_of (drop (i + 1) c.in-Some.others.now ++ last ∷ [])))
    x.at.0 c.core.ensures c.step-in-loop-form.ensures (rw (here, forms_more c.args.at.0 x last (drop (i + 1) c.in-Some.others.now), place) at c.loop-form.invariant)

pub node-returns-in-Setq : goal.node-returns-in-Setq
node-returns-in-Setq t c = grind (arith, counted_append, node_opened, outs-Setq)

pub node-returns-in-If : goal.node-returns-in-If
node-returns-in-If t c = grind (arith, counted_append, node_opened, outs-If)

pub node-returns-in-Let : goal.node-returns-in-Let
node-returns-in-Let t c = grind (arith, counted_append, node_opened, outs-Let)

pub node-returns-in-Prim : goal.node-returns-in-Prim
node-returns-in-Prim t c = grind (arith, counted_append, node_opened, outs-Prim)

pub node-returns-in-Call : goal.node-returns-in-Call
node-returns-in-Call t c = grind (arith, counted_append, node_opened, outs-Call)

pub node-returns-then-not-ignored : goal.node-returns-then-not-ignored
node-returns-then-not-ignored t c = grind (arith, counted_append, node_opened, outs-Funcall)

pub node-returns-else-not-ignored : goal.node-returns-else-not-ignored
node-returns-else-not-ignored t c = grind (arith, counted_append, node_opened, outs-Funcall)

pub node-returns-in-Qlet : goal.node-returns-in-Qlet
node-returns-in-Qlet t c = grind (arith, counted_append, node_opened, outs-Qlet)

pub node-returns-in-Qlambda : goal.node-returns-in-Qlambda
node-returns-in-Qlambda t c = grind (arith, counted_append, node_opened, outs-Qlambda)

pub node-returns-in-Catch : goal.node-returns-in-Catch
node-returns-in-Catch t c = grind (arith, counted_append, node_opened, outs-Catch)

pub node-returns-in-Qcatch : goal.node-returns-in-Qcatch
node-returns-in-Qcatch t c = grind (arith, counted_append, node_opened, outs-Qcatch)

pub node-returns-in-Throw : goal.node-returns-in-Throw
node-returns-in-Throw t c = grind (arith, counted_append, node_opened, outs-Throw)

pub node-returns-in-Protect : goal.node-returns-in-Protect
node-returns-in-Protect t c = grind (arith, counted_append, node_opened, outs-Protect)
