use Rattle.std.proofs.Common.{List, refl, slice_set}
use Rattle.std.proofs.lemmas.Result.{on_ok_weaker, on_err_weaker}
use Rattle.ql_proc.specs.declared.process.Proc.{Proc}
use Rattle.ql_host.proofs.Steps.{thread_at, takes_alone, kept_alone, long_alone, both_ok}
use Rattle.ql_host.proofs.step.take_turn.Goals as goal

pub returns-in_default : goal.returns-in_default
returns-in_default c =
    let v : Proc = c.index_mut.result.now in
    let u : Proc = c.out_of_code.new.proc in
    let us : List Proc = slice_set c.args.procs.now.items c.args.i u in
    let g = thread_at c.args.s c.args.p c.args.i c.args.person c.args.shared.now c.args.procs.now.items c.requires v c.index_mut.ensures.value in
    record {
      takes = on_ok_weaker c.out_of_code.result (takes_alone c.args.s c.args.p c.args.i c.args.person c.args.shared.now c.args.procs.now.items c.requires c.out_of_code.new.shared us v u g refl) c.out_of_code.ensures.takes;
      long = both_ok c.out_of_code.result (long_alone c.args.s c.args.p c.args.i c.args.person c.args.shared.now c.args.procs.now.items c.requires c.out_of_code.new.shared us v u g refl) c.out_of_code.ensures.takes c.out_of_code.ensures.keeps;
      keeps = c.out_of_code.ensures.keeps;
      kept = on_err_weaker c.out_of_code.result (kept_alone c.args.s c.args.p c.args.i c.args.person c.args.shared.now c.args.procs.now.items c.requires c.out_of_code.new.shared us v u g refl) c.out_of_code.ensures.kept;
    }
