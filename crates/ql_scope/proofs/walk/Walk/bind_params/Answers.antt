use Rattle.std.proofs.Common.{◌≡◌, ◌+◌, ◌<◌, ap, arith, length, take, drop, get_or}
use Rattle.std.proofs.lemmas.List.{get_or_default}
use Rattle.ql_expand.specs.declared.core_form.Binder.{Binder}
use Rattle.ql_expand.specs.declared.core_form.VarName.TheVariants.{Sym}
use Rattle.ql_expand.specs.View.{binder_of, binders_of}
use Rattle.ql_scope.proofs.Added.{bound_one, drop_is, map_more}
use Rattle.ql_scope.proofs.walk.Walk.bind_params.Goals as goal

pub loop-binder-preserved : goal.loop-binder-preserved
loop-binder-preserved c =
    let i = c.loop-binder.binder-index in
    let bs = c.args.params.now in
    let at : i < length bs = omega arith in
    let x : Binder = get_or bs i (record { at = record { 0 = 0 }; name = Sym 0 }) in
    let is : x ≡ get_or bs i x = get_or_default bs i (record { at = record { 0 = 0 }; name = Sym 0 }) x at in
    bound_one c.depth-outer.result c.args.self.now c.loop-binder.self c.bind.new.self (binders_of (take i bs)) (binders_of (take (i + 1) bs)) (binders_of (drop i bs)) (binders_of (drop (i + 1) bs)) (binder_of x) _
    c.loop-binder.invariant.0 c.loop-binder.invariant.1.0 c.loop-binder.invariant.1.1 c.in_ok-bind.ensures.stored c.in_ok-bind.ensures.seen c.in_ok-bind.ensures.first c.depth-outer.ensures
    (map_more binder_of bs i x at is) (ap binders_of (drop_is bs i x at is))
