use Rattle.std.proofs.Common.{◌<◌, List, length, refl, subst}
use Rattle.ql_proc.specs.declared.process.Proc.{Proc}
use Rattle.ql_host.specs.Working.{IsTakable}
use Rattle.ql_host.proofs.Works.{at_index, taken, left_so}
use Rattle.ql_host.proofs.work.take_in.Goals as goal

pub returns-in-Ok-clause-ends : goal.returns-in-Ok-clause-ends
returns-in-Ok-clause-ends c = (
  refl,
  (
    subst (λ ts. IsTakable c.args.s c.args.shared.now ts c.args.done.now) c.deref-2.ensures.value (c.is_takable.ensures.0 c.if-not-is_takable.false),
    taken c.args.shared.now c.apply.new.shared c.args.procs.now.items c.in-Some.i c.in-Some.person c.index_mut.result.now c.apply.new.proc c.args.done.now c.in-Some.ensures.0 c.in-Some.ensures.1.1 (at_index c.args.procs.now.items c.in-Some.i c.index_mut.result.now (subst (λ (ts : List Proc). c.in-Some.i < length ts) c.deref.ensures.value c.in-Some.ensures.1.0) c.index_mut.ensures.value)
        c.in-Ok.ensures.shared c.in-Ok.ensures.room c.in-Ok.ensures.point,
  ),
)

pub returns-in-Err-clause-left : goal.returns-in-Err-clause-left
returns-in-Err-clause-left c =
    left_so c.args.shared.now c.apply.new.shared c.args.procs.now.items c.in-Some.i c.index_mut.result.now c.apply.new.proc (at_index c.args.procs.now.items c.in-Some.i c.index_mut.result.now (subst (λ (ts : List Proc). c.in-Some.i < length ts) c.deref.ensures.value c.in-Some.ensures.1.0) c.index_mut.ensures.value) c.in-Err.ensures.same c.in-Err.ensures.spare c.in-Err.ensures.stays
