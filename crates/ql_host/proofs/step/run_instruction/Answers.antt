use Rattle.std.proofs.Common.{◌≡◌, None, refl, sym, ap, ◌∙◌, subst, slice_set, arith}
use Rattle.std.proofs.lemmas.Result.{on_ok_weaker, on_err_weaker}
use Rattle.std.specs.Prelude.{slice_get}
use Rattle.ql_proc.specs.declared.process.Proc.{Proc}
use Rattle.ql_proc.specs.Slots.{HasWords}
use Rattle.ql_code.specs.Operands.{operands_of}
use Rattle.ql_host.specs.Acting.{StandsAt}
use Rattle.ql_host.specs.Awaited.{awaited}
use Rattle.ql_host.proofs.Steps.{here_is, thread_at, same_thread, never_past, nothing, is_ready_for, stands_at, stands_among, takes_alone, kept_alone, long_alone, both_ok}
use Rattle.ql_host.proofs.step.run_instruction.Goals as goal

pub returns-then-place-len-clause-keeps : goal.returns-then-place-len-clause-keeps
returns-then-place-len-clause-keeps c =
    let t : Proc = c.index.result.now in
    let g = thread_at c.args.s c.args.p c.args.i c.args.person c.args.shared.now c.args.procs.now.items c.requires.turn t c.index.ensures in
    absurd (never_past c.args.s c.args.p c.args.i c.args.person c.args.shared.now c.args.procs.now.items c.requires.turn t g (c.requires.runs t g) (omega (arith, c.if-place-len.true, c.len.ensures.count)))

pub awaited-future-requires : goal.awaited-future-requires
awaited-future-requires c =
    let t : Proc = c.index.result.now in
    let v : Proc = c.index-2.result.now in
    let g = thread_at c.args.s c.args.p c.args.i c.args.person c.args.shared.now c.args.procs.now.items c.requires.turn t c.index.ensures in
    let k = thread_at c.args.s c.args.p c.args.i c.args.person c.args.shared.now c.args.procs.now.items c.requires.turn v c.index-2.ensures in
    let here = here_is (slice_get c.args.s.code.now.instructions t.place) c.at-op.result.now c.offset-at.result.0 c.at-op.ensures c.offset-at.ensures in
    subst (λ (x : Proc). HasWords (operands_of c.at-op.result.now) x.stack.items) (same_thread c.args.s c.args.p c.args.i c.args.person c.args.shared.now c.args.procs.now.items c.requires.turn t v g k)
    ((c.requires.turn.able t g).operands c.at-op.result.now c.offset-at.result.0 (c.requires.runs t g) here)

pub among-requires-clause-stands : goal.among-requires-clause-stands
among-requires-clause-stands c =
    let t : Proc = c.index.result.now in
    let g = thread_at c.args.s c.args.p c.args.i c.args.person c.args.shared.now c.args.procs.now.items c.requires.turn t c.index.ensures in
    let here = here_is (slice_get c.args.s.code.now.instructions t.place) c.at-op.result.now c.offset-at.result.0 c.at-op.ensures c.offset-at.ensures in
    stands_among c.args.s c.args.p c.args.i c.args.person c.args.shared.now c.args.procs.now.items c.requires.turn t c.at-op.result.now c.offset-at.result.0 g (c.requires.runs t g) here

pub among-requires-clause-calm : goal.among-requires-clause-calm
among-requires-clause-calm c t e =
    let v : Proc = c.index-2.result.now in
    let k = thread_at c.args.s c.args.p c.args.i c.args.person c.args.shared.now c.args.procs.now.items c.requires.turn v c.index-2.ensures in
    subst (λ (x : Proc). awaited c.at-op.result.now x.stack.items ≡ None) (same_thread c.args.s c.args.p c.args.i c.args.person c.args.shared.now c.args.procs.now.items c.requires.turn v t k e)
    (sym c.awaited-future.ensures ∙ nothing c.awaited-future.result c.if-is_none.ensures)

pub alone-requires-clause-here : goal.alone-requires-clause-here
alone-requires-clause-here c =
    let t : Proc = c.index.result.now in
    let v : Proc = c.index_mut.result.now in
    let g = thread_at c.args.s c.args.p c.args.i c.args.person c.args.shared.now c.args.procs.now.items c.requires.turn t c.index.ensures in
    let k = thread_at c.args.s c.args.p c.args.i c.args.person c.args.shared.now c.args.procs.now.items c.requires.turn v c.index_mut.ensures.value in
    let here = here_is (slice_get c.args.s.code.now.instructions t.place) c.at-op.result.now c.offset-at.result.0 c.at-op.ensures c.offset-at.ensures in
    subst (λ (x : Proc). StandsAt c.args.s c.args.p c.args.person c.args.shared.now x c.at-op.result.now c.offset-at.result.0) (same_thread c.args.s c.args.p c.args.i c.args.person c.args.shared.now c.args.procs.now.items c.requires.turn t v g k)
    (stands_at c.args.s c.args.p c.args.i c.args.person c.args.shared.now c.args.procs.now.items c.requires.turn t c.at-op.result.now c.offset-at.result.0 g (c.requires.runs t g) here)

pub alone-requires-clause-ready : goal.alone-requires-clause-ready
alone-requires-clause-ready c f e =
    let t : Proc = c.index.result.now in
    let v : Proc = c.index-2.result.now in
    let g = thread_at c.args.s c.args.p c.args.i c.args.person c.args.shared.now c.args.procs.now.items c.requires.turn t c.index.ensures in
    let k = thread_at c.args.s c.args.p c.args.i c.args.person c.args.shared.now c.args.procs.now.items c.requires.turn v c.index-2.ensures in
    let here = here_is (slice_get c.args.s.code.now.instructions t.place) c.at-op.result.now c.offset-at.result.0 c.at-op.ensures c.offset-at.ensures in
    is_ready_for c.args.s c.args.p c.args.i c.args.person c.args.shared.now c.args.procs.now.items c.requires.turn t c.at-op.result.now c.offset-at.result.0 g (c.requires.runs t g) here f
    (ap (λ (x : Proc). awaited c.at-op.result.now x.stack.items) (same_thread c.args.s c.args.p c.args.i c.args.person c.args.shared.now c.args.procs.now.items c.requires.turn t v g k) ∙ sym c.awaited-future.ensures ∙ e)

pub returns-clause-takes : goal.returns-clause-takes
returns-clause-takes c =
    let v : Proc = c.index_mut.result.now in
    on_ok_weaker c.alone.result
    (takes_alone c.args.s c.args.p c.args.i c.args.person c.args.shared.now c.args.procs.now.items c.requires.turn c.alone.new.shared (slice_set c.args.procs.now.items c.args.i c.alone.new.proc) v c.alone.new.proc
    (thread_at c.args.s c.args.p c.args.i c.args.person c.args.shared.now c.args.procs.now.items c.requires.turn v c.index_mut.ensures.value) refl)
    c.alone.ensures.takes

pub returns-clause-long : goal.returns-clause-long
returns-clause-long c =
    let v : Proc = c.index_mut.result.now in
    both_ok c.alone.result
    (long_alone c.args.s c.args.p c.args.i c.args.person c.args.shared.now c.args.procs.now.items c.requires.turn c.alone.new.shared (slice_set c.args.procs.now.items c.args.i c.alone.new.proc) v c.alone.new.proc
    (thread_at c.args.s c.args.p c.args.i c.args.person c.args.shared.now c.args.procs.now.items c.requires.turn v c.index_mut.ensures.value) refl)
    c.alone.ensures.takes c.alone.ensures.keeps

pub returns-clause-kept : goal.returns-clause-kept
returns-clause-kept c =
    let v : Proc = c.index_mut.result.now in
    on_err_weaker c.alone.result
    (kept_alone c.args.s c.args.p c.args.i c.args.person c.args.shared.now c.args.procs.now.items c.requires.turn c.alone.new.shared (slice_set c.args.procs.now.items c.args.i c.alone.new.proc) v c.alone.new.proc
    (thread_at c.args.s c.args.p c.args.i c.args.person c.args.shared.now c.args.procs.now.items c.requires.turn v c.index_mut.ensures.value) refl)
    c.alone.ensures.kept
