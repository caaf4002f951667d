use Rattle.std.proofs.Common.{◌∙◌, sym, ap}
use Rattle.ql_host.specs.Working.{is_local}
use Rattle.ql_host.proofs.Works.{window_is}
use Rattle.ql_host.proofs.work.next_is_local.Goals as goal

pub returns-in-Some : goal.returns-in-Some
returns-in-Some c =
    c.goes_locally.ensures
    ∙ sym
    (ap (is_local c.args.s)
    (window_is c.args.shared.now c.args.procs.now c.args.p c.in-Some.i c.in-Some.person c.thread_at.result.now c.in-Some.ensures.0 c.in-Some.ensures.1.1 c.thread_at.ensures))
