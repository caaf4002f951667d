use Rattle.std.proofs.Common.{List, ◌++◌, slice_set, ap, ◌∙◌}
use Rattle.ql_proc.specs.declared.process.Proc.{Proc}
use Rattle.ql_host.specs.Making.{AreKept}
use Rattle.ql_host.proofs.Making.{takes_all, found, all_kept, on_err}
use Rattle.ql_host.proofs.ticks.makes.qlambda.Goals as goal

pub qlambda_of-requires-clause-stands : goal.qlambda_of-requires-clause-stands
qlambda_of-requires-clause-stands c =
    c.requires.stands c.args.i c.index_mut.result.now c.requires.number
    (found c.args.procs.now.items c.reserve.new.self.items c.args.i c.index_mut.result.now c.in_ok-reserve.ensures.items c.requires.there c.index_mut.ensures.value)

pub qlambda_of-requires-clause-calm : goal.qlambda_of-requires-clause-calm
qlambda_of-requires-clause-calm c =
    c.requires.calm c.index_mut.result.now
    (found c.args.procs.now.items c.reserve.new.self.items c.args.i c.index_mut.result.now c.in_ok-reserve.ensures.items c.requires.there c.index_mut.ensures.value)

pub returns-in_err-made-clause-kept : goal.returns-in_err-made-clause-kept
returns-in_err-made-clause-kept c =
    let ts : List Proc = c.args.procs.now.items in
    let us : List Proc = slice_set c.reserve.new.self.items c.args.i c.qlambda_of.new.proc in
    on_err c.from_residual-in_err-made.result (AreKept c.args.shared.now ts c.qlambda_of.new.shared us)
    (all_kept c.args.shared.now c.qlambda_of.new.shared ts us c.args.i c.index_mut.result.now c.qlambda_of.new.proc
    (found ts c.reserve.new.self.items c.args.i c.index_mut.result.now c.in_ok-reserve.ensures.items c.requires.there c.index_mut.ensures.value)
    (ap (λ vs. slice_set vs c.args.i c.qlambda_of.new.proc) c.in_ok-reserve.ensures.items)
    c.in_err-made.ensures.kept)

pub returns-clause-takes : goal.returns-clause-takes
returns-clause-takes c =
    let ts : List Proc = c.args.procs.now.items in
    takes_all c.args.s c.args.p c.args.person c.args.shared.now c.qlambda_of.new.shared c.index_mut.result.now c.qlambda_of.new.proc ts c.take_in.new.procs.items c.in_ok-made.made.items c.args.i c.requires.number
    (found ts c.reserve.new.self.items c.args.i c.index_mut.result.now c.in_ok-reserve.ensures.items c.requires.there c.index_mut.ensures.value)
    (c.take_in.ensures ∙ ap (λ vs. slice_set vs c.args.i c.qlambda_of.new.proc ++ c.in_ok-made.made.items) c.in_ok-reserve.ensures.items)
    c.in_ok-made.ensures.makes
