use Rattle.std.proofs.Common.{◌≡◌, ◌∙◌, ◌+◌, ◌<◌, ◌++◌, ◌∷◌, [], None, refl, sym, ap, append-nil, arith, length, drop}
use Rattle.std.proofs.lemmas.List.{drop_all}
use Rattle.std.proofs.lemmas.Result.{on_ok_weaker}
use Rattle.ql_expand.specs.View.{core_of, cores_of, binder_of, binders_of, bounds_of, name_of}
use Rattle.ql_expand.specs.Core.{and_core, and_bound}
use Rattle.ql_expand.specs.declared.core_form.VarName.TheVariants.{Sym}
use Rattle.ql_scope.specs.Scope.{binders_in}
use Rattle.ql_code.specs.Code.{instruction}
use Rattle.ql_code.specs.declared.code.Op.TheVariants.{Catch, Join, Qcatch}
use Rattle.ql_compile.proofs.Rests.{drop_is}
use Rattle.ql_expand.specs.Opened.{opened, bound_opened, node_opened}
use Rattle.ql_expand.specs.declared.core_form.Node.TheVariants.{outs-If, outs-Let, outs-Prim, outs-Print, outs-Call, outs-Funcall, outs-Qlet, outs-Qlambda, outs-Catch, outs-Qcatch, outs-Throw, outs-Protect, outs-Defvar}
use Rattle.ql_meaning.specs.Context.{offset_of}
use Rattle.ql_compile.specs.Compile.{call_op, find_in, place_called, starts_of, write_op}
use Rattle.ql_compile.specs.Emitting.{context_in, core_code, followed, cores_code, joined_code, just, places_in, values_code, within}
use Rattle.ql_compile.proofs.Counts.{binders_length, bounds_length}
use Rattle.ql_compile.proofs.Emitting.{and_then, binding_code, caught_code, conditional_code, emits_more, funcall_code, more_then, protect_code, qlambda_code, qlet_code, throw_code}
use Rattle.ql_compile.proofs.Framed.{above_codes, closure_codes, cores_split, form_one, joined_split, nothing_left, one_joined, operands_more, pushed_is, rest_none, rest_one, some_left, some_more, starts_split, under_codes, values_split}
use Rattle.ql_compile.proofs.emit.Emitter.+emit.Goals as goal

pub closure-returns : goal.closure-returns
closure-returns t c =
    closure_codes c.close.result c.args.at.0 c.args.is_process (binders_of c.args.params.now) (core_of c.args.body.now) (length c.args.params.now) c.in_ok-opened.opened.hole c.in_ok-opened.opened.slots c.in_ok-opened.opened.outer
    c.args.self.now c.open.new.self c.core.new.self c.close.new.self
    (sym (binders_length c.args.params.now)) c.in_ok-opened.ensures.hole c.in_ok-opened.ensures.outer c.in_ok-opened.ensures.slots c.in_ok-opened.ensures.inner c.in_ok-core.ensures c.close.ensures

pub core_above-returns : goal.core_above-returns
core_above-returns t c =
    above_codes (core_code (core_of c.args.core.now)) c.args.self.now c.core.new.self c.push_operand.new.self c.keep.new.self c.len-outer.result c.len-outer.ensures c.in_ok-push_operand.ensures c.in_ok-core.ensures c.keep.ensures

pub cores_above-returns : goal.cores_above-returns
cores_above-returns t c =
    above_codes (cores_code (cores_of c.args.cores.now)) c.args.self.now c.cores.new.self c.push_operand.new.self c.keep.new.self c.len-outer.result c.len-outer.ensures c.in_ok-push_operand.ensures c.in_ok-cores.ensures c.keep.ensures

pub under-returns : goal.under-returns
under-returns t c =
    under_codes c.slide.result c.args.at.0 (binders_in (bounds_of c.args.binds.now)) (core_of c.args.body.now) (length c.args.binds.now) c.len-outer.result c.args.self.now c.bind.new.self c.core.new.self c.slide.new.self
    (sym (bounds_length c.args.binds.now)) c.len-outer.ensures c.in_ok-bind.ensures c.in_ok-core.ensures c.slide.ensures

pub cores-loop-core-init : goal.cores-loop-core-init
cores-loop-core-init t c = record { outer = c.len-outer.ensures; frame = refl; rest = refl }

pub cores-loop-core-preserved : goal.cores-loop-core-preserved
cores-loop-core-preserved t c =
    let i = c.loop-core.core-index in
    let at : i < length c.args.cores.now = omega arith in
    let C = core_of c.core-item.result in
    let cs = cores_of (drop (i + 1) c.args.cores.now) in
    let here = drop_is c.args.cores.now i c.core-item.result at c.core-item.is in
    let b = c.loop-core.self in
    record {
      outer = c.loop-core.invariant.outer;
      frame = operands_more i c.args.self.now.frame c.push_operand.new.self b.frame c.loop-core.invariant.frame (c.in_ok-push_operand.ensures ∙ ap (λ e. None ∷ e.frame) c.in_ok-core.ensures);
      rest = rest_one (cores_code cs) (cores_code (and_core C cs)) c.args.self.now b (within c.core.new.self c.push_operand.new.self) _ (core_code C b) (pushed_is b c.core.new.self (core_code C b) c.push_operand.new.self c.in_ok-core.ensures c.in_ok-push_operand.ensures) (cores_split b C cs) (rw here at c.loop-core.invariant.rest);
    }

pub cores-returns : goal.cores-returns
cores-returns t c =
    let none = drop_all c.loop-core.core-index c.args.cores.now c.loop-core-test.false in
    rest_none c.args.self.now c.loop-core.self _ c.loop-core.core-index c.len-outer.result c.keep.new.self c.loop-core.invariant.frame c.len-outer.ensures c.keep.ensures (rw none at c.loop-core.invariant.rest)

pub values-loop-bound-init : goal.values-loop-bound-init
values-loop-bound-init t c = record { outer = c.len-outer.ensures; frame = refl; rest = refl }

pub values-loop-bound-preserved : goal.values-loop-bound-preserved
values-loop-bound-preserved t c =
    let i = c.loop-bound.bound-index in
    let at : i < length c.args.binds.now = omega arith in
    let B = binder_of c.bound-item.result.binder in
    let C = core_of c.bound-item.result.value in
    let bs = bounds_of (drop (i + 1) c.args.binds.now) in
    let here = drop_is c.args.binds.now i c.bound-item.result at c.bound-item.is in
    let b = c.loop-bound.self in
    record {
      outer = c.loop-bound.invariant.outer;
      frame = operands_more i c.args.self.now.frame c.push_operand.new.self b.frame c.loop-bound.invariant.frame (c.in_ok-push_operand.ensures ∙ ap (λ e. None ∷ e.frame) c.in_ok-core.ensures);
      rest = rest_one (values_code bs) (values_code (and_bound B C bs)) c.args.self.now b (within c.core.new.self c.push_operand.new.self) _ (core_code C b) (pushed_is b c.core.new.self (core_code C b) c.push_operand.new.self c.in_ok-core.ensures c.in_ok-push_operand.ensures) (values_split b B C bs) (rw (here, bound_opened c.bound-item.result) at c.loop-bound.invariant.rest);
    }

pub values-returns : goal.values-returns
values-returns t c =
    let none = drop_all c.loop-bound.bound-index c.args.binds.now c.loop-bound-test.false in
    rest_none c.args.self.now c.loop-bound.self _ c.loop-bound.bound-index c.len-outer.result c.keep.new.self c.loop-bound.invariant.frame c.len-outer.ensures c.keep.ensures (rw none at c.loop-bound.invariant.rest)

pub joined-loop-bound-init : goal.joined-loop-bound-init
joined-loop-bound-init t c = record { outer = c.len-outer.ensures; frame = refl; rest = refl; starts = ap (λ s. s ++ starts_of (length c.args.self.now.output) (bounds_of c.args.binds.now)) c.new-starts.ensures.items }

pub joined-loop-bound-preserved : goal.joined-loop-bound-preserved
joined-loop-bound-preserved t c =
    let i = c.loop-bound.bound-index in
    let at : i < length c.args.binds.now = omega arith in
    let B = binder_of c.bound-item.result.binder in
    let C = core_of c.bound-item.result.value in
    let bs = bounds_of (drop (i + 1) c.args.binds.now) in
    let here = drop_is c.args.binds.now i c.bound-item.result at c.bound-item.is in
    let b = c.loop-bound.self in
    let place : offset_of C ≡ c.bound-item.result.value.at.0 = ap offset_of (opened c.bound-item.result.value) in
    let one : c.add.new.self ≡ followed b (one_joined C b) = and_then b c.core.new.self c.add.new.self (core_code C b) (instruction Join (offset_of C) ∷ []) c.in_ok-core.ensures (rw place c.in_ok-add.ensures) in
    let done : within c.add.new.self c.push_operand.new.self ≡ within (followed b (one_joined C b)) (None ∷ b.frame) = pushed_is b c.add.new.self (one_joined C b) c.push_operand.new.self one c.in_ok-push_operand.ensures in
    record {
      outer = c.loop-bound.invariant.outer;
      frame = operands_more i c.args.self.now.frame c.push_operand.new.self b.frame c.loop-bound.invariant.frame (c.in_ok-push_operand.ensures ∙ ap (λ e. None ∷ e.frame) one);
      rest = rest_one (joined_code bs) (joined_code (and_bound B C bs)) c.args.self.now b (within c.add.new.self c.push_operand.new.self) _ (one_joined C b) done (joined_split b B C bs) (rw (here, bound_opened c.bound-item.result) at c.loop-bound.invariant.rest);
      starts = starts_split b (within c.add.new.self c.push_operand.new.self) B C bs c.loop-bound.starts.items c.here_into.new.places.items _ done c.in_ok-here_into.ensures (rw (here, bound_opened c.bound-item.result) at c.loop-bound.invariant.starts);
    }

pub joined-returns-clause-starts : goal.joined-returns-clause-starts
joined-returns-clause-starts t c =
    let none = drop_all c.loop-bound.bound-index c.args.binds.now c.loop-bound-test.false in
    sym (append-nil c.loop-bound.starts.items) ∙ (rw none at c.loop-bound.invariant.starts)

pub joined-returns-clause-code : goal.joined-returns-clause-code
joined-returns-clause-code t c =
    let none = drop_all c.loop-bound.bound-index c.args.binds.now c.loop-bound-test.false in
    rest_none c.args.self.now c.loop-bound.self _ c.loop-bound.bound-index c.len-outer.result c.keep.new.self c.loop-bound.invariant.frame c.len-outer.ensures c.keep.ensures (rw none at c.loop-bound.invariant.rest)

pub forms-loop-i-init : goal.forms-loop-i-init
forms-loop-i-init t c = ap (followed c.args.self.now) (some_left c.args.at.0 c.args.forms.now c.args.self.now (sym c.if-is_empty.ensures))

pub forms-loop-i-preserved : goal.forms-loop-i-preserved
forms-loop-i-preserved t c =
    let i = c.loop-i.i in
    let cs = c.args.forms.now in
    let at : i < length cs = omega arith in
    let here = drop_is cs i c.index-forms-i.result at c.index-forms-i.is in
    let place : offset_of (core_of c.index-forms-i.result) ≡ c.index-forms-i.result.at.0 = ap offset_of (opened c.index-forms-i.result) in
    form_one c.args.at.0 c.index-forms-i.result (drop (i + 1) cs) c.loop-i.self c.core.new.self c.drop_if.new.self _ _ (some_more cs (i + 1)) c.in_ok-core.ensures (rw place c.in_ok-drop_if.ensures) (rw here at c.loop-i.invariant)

pub forms-returns : goal.forms-returns
forms-returns t c =
    let none = drop_all c.loop-i.i c.args.forms.now c.loop-i-test.false in
    nothing_left c.loop-i.self _ (rw none at c.loop-i.invariant)

pub node-returns-in_ok-core-in-If-3 : goal.node-returns-in_ok-core-in-If-3
node-returns-in_ok-core-in-If-3 t c =
    let step = on_ok_weaker c.jump_here.result (conditional_code c.args.at.0 (core_of c.get-in-If.result.now) (core_of c.get-in-If-2.result.now) (core_of c.get-in-If-3.result.now) c.args.self.now c.core-in-If.new.self c.hole.new.self c.core-in-If-2.new.self c.hole-in-If.new.self c.branch_here.new.self c.core-in-If-3.new.self c.jump_here.new.self c.in_ok-branch-in-If.branch c.in_ok-jump-in-If.jump
    c.in_ok-core-in-If.ensures c.in_ok-branch-in-If.ensures.place c.in_ok-branch-in-If.ensures.hole c.in_ok-core-in-If-2.ensures c.in_ok-jump-in-If.ensures.place c.in_ok-jump-in-If.ensures.hole c.in_ok-branch_here-in-If.ensures c.in_ok-core-in-If-3.ensures) c.jump_here.ensures in
    rw (c.in-If.is, node_opened, outs-If) (rw (c.get-in-If.ensures, c.get-in-If-2.ensures, c.get-in-If-3.ensures) at step)

pub node-returns-in_ok-values-in-Let : goal.node-returns-in_ok-values-in-Let
node-returns-in_ok-values-in-Let t c =
    let bs : c.as_slice-in-Let-2.result.now ≡ c.as_slice-in-Let.result.now = c.as_slice-in-Let-2.ensures ∙ sym c.as_slice-in-Let.ensures in
    let step = on_ok_weaker c.under.result (binding_code c.args.at.0 (bounds_of c.as_slice-in-Let.result.now) (core_of c.get-in-Let.result.now) c.args.self.now c.values.new.self c.under.new.self c.in_ok-values-in-Let.ensures) (rw bs at c.under.ensures) in
    rw (c.in-Let.is, node_opened, outs-Let) (rw (c.as_slice-in-Let.ensures, c.get-in-Let.ensures) at step)

pub node-returns-in_ok-cores-in-Prim : goal.node-returns-in_ok-cores-in-Prim
node-returns-in_ok-cores-in-Prim t c =
    let x = context_in c.args.self.now in
    let step = more_then c.add.result c.args.self.now c.cores.new.self c.add.new.self _ _ c.in_ok-cores-in-Prim.ensures c.add.ensures in
    rw (c.in-Prim.is, node_opened, outs-Prim) (rw (c.as_slice-in-Prim.ensures, c.primitive.ensures x) at step)

pub node-returns-in_ok-core-in-Print : goal.node-returns-in_ok-core-in-Print
node-returns-in_ok-core-in-Print t c =
    let step = more_then c.add-in-Print.result c.args.self.now c.core-in-Print.new.self c.add-in-Print.new.self _ _ c.in_ok-core-in-Print.ensures c.add-in-Print.ensures in
    rw (c.in-Print.is, node_opened, outs-Print) (rw (c.get-in-Print.ensures) at step)

pub node-returns-in_ok-cores-in-Call : goal.node-returns-in_ok-cores-in-Call
node-returns-in_ok-cores-in-Call t c =
    let step = emits_more c.call.result (λ e. just (call_op (context_in e) (place_called (places_in e) c.in-Call.name) (cores_of c.as_slice-in-Call-2.result.now)) c.args.at.0 e) c.args.self.now c.cores-in-Call.new.self c.call.new.self _ c.in_ok-cores-in-Call.ensures c.call.ensures in
    rw (c.in-Call.is, node_opened, outs-Call) (rw (c.as_slice-in-Call.ensures, c.as_slice-in-Call-2.ensures) at step)

pub node-returns-in_ok-cores_above-in-Funcall : goal.node-returns-in_ok-cores_above-in-Funcall
node-returns-in_ok-cores_above-in-Funcall t c =
    let cs : c.as_slice-in-Funcall-2.result.now ≡ c.as_slice-in-Funcall.result.now = c.as_slice-in-Funcall-2.ensures ∙ sym c.as_slice-in-Funcall.ensures in
    let step = on_ok_weaker c.funcall.result (funcall_code c.args.at.0 c.in-Funcall.ignored (core_of c.get-in-Funcall.result.now) (cores_of c.as_slice-in-Funcall.result.now) c.args.self.now c.core-in-Funcall.new.self c.cores_above.new.self c.funcall.new.self
    c.in_ok-core-in-Funcall.ensures c.in_ok-cores_above-in-Funcall.ensures) (rw cs at c.funcall.ensures) in
    rw (c.in-Funcall.is, node_opened, outs-Funcall) (rw (c.get-in-Funcall.ensures, c.as_slice-in-Funcall.ensures) at step)

pub node-returns-in_ok-gather-in-Qlet : goal.node-returns-in_ok-gather-in-Qlet
node-returns-in_ok-gather-in-Qlet t c =
    let bs : c.as_slice-in-Qlet-2.result.now ≡ c.as_slice-in-Qlet.result.now = c.as_slice-in-Qlet-2.ensures ∙ sym c.as_slice-in-Qlet.ensures in
    let step = on_ok_weaker c.under-in-Qlet.result (qlet_code c.args.at.0 (core_of c.get-in-Qlet.result.now) (bounds_of c.as_slice-in-Qlet.result.now) (core_of c.get-in-Qlet-2.result.now) c.args.self.now c.core-in-Qlet.new.self c.hole-in-Qlet.new.self c.joined.new.self c.gather.new.self c.under-in-Qlet.new.self c.in_ok-hole-in-Qlet.hole c.in_ok-starts-in-Qlet.starts.items
    c.in_ok-core-in-Qlet.ensures c.in_ok-hole-in-Qlet.ensures.place c.in_ok-hole-in-Qlet.ensures.hole c.in_ok-starts-in-Qlet.ensures.starts c.in_ok-starts-in-Qlet.ensures.code c.in_ok-gather-in-Qlet.ensures) (rw bs at c.under-in-Qlet.ensures) in
    rw (c.in-Qlet.is, node_opened, outs-Qlet) (rw (c.get-in-Qlet.ensures, c.as_slice-in-Qlet.ensures, c.get-in-Qlet-2.ensures) at step)

pub node-returns-in_ok-core-in-Qlambda : goal.node-returns-in_ok-core-in-Qlambda
node-returns-in_ok-core-in-Qlambda t c =
    let step = on_ok_weaker c.closure-in-Qlambda.result (qlambda_code c.args.at.0 (core_of c.get-in-Qlambda.result.now) (binders_of c.as_slice-in-Qlambda.result.now) (core_of c.get-in-Qlambda-2.result.now) c.args.self.now c.core-in-Qlambda.new.self c.closure-in-Qlambda.new.self c.in_ok-core-in-Qlambda.ensures) c.closure-in-Qlambda.ensures in
    rw (c.in-Qlambda.is, node_opened, outs-Qlambda) (rw (c.get-in-Qlambda.ensures, c.as_slice-in-Qlambda.ensures, c.get-in-Qlambda-2.ensures) at step)

pub node-returns-in_ok-core-in-Catch-2 : goal.node-returns-in_ok-core-in-Catch-2
node-returns-in_ok-core-in-Catch-2 t c =
    let step = on_ok_weaker c.catch_here.result (caught_code Catch c.args.at.0 (core_of c.get-in-Catch.result.now) (core_of c.get-in-Catch-2.result.now) c.args.self.now c.core-in-Catch.new.self c.hole-in-Catch.new.self c.core-in-Catch-2.new.self c.catch_here.new.self c.in_ok-hole-in-Catch.hole
    c.in_ok-core-in-Catch.ensures c.in_ok-hole-in-Catch.ensures.place c.in_ok-hole-in-Catch.ensures.hole c.in_ok-core-in-Catch-2.ensures) c.catch_here.ensures in
    rw (c.in-Catch.is, node_opened, outs-Catch) (rw (c.get-in-Catch.ensures, c.get-in-Catch-2.ensures) at step)

pub node-returns-in_ok-core-in-Qcatch-2 : goal.node-returns-in_ok-core-in-Qcatch-2
node-returns-in_ok-core-in-Qcatch-2 t c =
    let step = on_ok_weaker c.qcatch_here.result (caught_code Qcatch c.args.at.0 (core_of c.get-in-Qcatch.result.now) (core_of c.get-in-Qcatch-2.result.now) c.args.self.now c.core-in-Qcatch.new.self c.hole-in-Qcatch.new.self c.core-in-Qcatch-2.new.self c.qcatch_here.new.self c.in_ok-hole-in-Qcatch.hole
    c.in_ok-core-in-Qcatch.ensures c.in_ok-hole-in-Qcatch.ensures.place c.in_ok-hole-in-Qcatch.ensures.hole c.in_ok-core-in-Qcatch-2.ensures) c.qcatch_here.ensures in
    rw (c.in-Qcatch.is, node_opened, outs-Qcatch) (rw (c.get-in-Qcatch.ensures, c.get-in-Qcatch-2.ensures) at step)

pub node-returns-in_ok-core_above-in-Throw : goal.node-returns-in_ok-core_above-in-Throw
node-returns-in_ok-core_above-in-Throw t c =
    let step = on_ok_weaker c.add-in-Throw.result (throw_code c.args.at.0 (core_of c.get-in-Throw.result.now) (core_of c.get-in-Throw-2.result.now) c.args.self.now c.core-in-Throw.new.self c.core_above.new.self c.add-in-Throw.new.self c.in_ok-core-in-Throw.ensures c.in_ok-core_above-in-Throw.ensures) c.add-in-Throw.ensures in
    rw (c.in-Throw.is, node_opened, outs-Throw) (rw (c.get-in-Throw.ensures, c.get-in-Throw-2.ensures) at step)

pub node-returns-in_ok-core_above-in-Protect : goal.node-returns-in_ok-core_above-in-Protect
node-returns-in_ok-core_above-in-Protect t c =
    let step = on_ok_weaker c.add-in-Protect.result (protect_code c.args.at.0 (core_of c.get-in-Protect.result.now) (core_of c.get-in-Protect-2.result.now) c.args.self.now c.hole-in-Protect.new.self c.core-in-Protect.new.self c.protect_here.new.self c.core_above-in-Protect.new.self c.add-in-Protect.new.self c.in_ok-hole-in-Protect.hole
    c.in_ok-hole-in-Protect.ensures.place c.in_ok-hole-in-Protect.ensures.hole c.in_ok-core-in-Protect.ensures c.in_ok-protect_here-in-Protect.ensures c.in_ok-core_above-in-Protect.ensures) c.add-in-Protect.ensures in
    rw (c.in-Protect.is, node_opened, outs-Protect) (rw (c.get-in-Protect.ensures, c.get-in-Protect-2.ensures) at step)

pub node-returns-in_ok-core-in-Defvar : goal.node-returns-in_ok-core-in-Defvar
node-returns-in_ok-core-in-Defvar t c =
    let step = emits_more c.assign-in-Defvar.result (λ e. just (write_op (context_in e) (find_in e.frame (name_of (Sym c.in-Defvar.name))) (name_of (Sym c.in-Defvar.name))) c.args.at.0 e) c.args.self.now c.core-in-Defvar.new.self c.assign-in-Defvar.new.self _ c.in_ok-core-in-Defvar.ensures c.assign-in-Defvar.ensures in
    rw (c.in-Defvar.is, node_opened, outs-Defvar) (rw (c.get-in-Defvar.ensures) at step)
