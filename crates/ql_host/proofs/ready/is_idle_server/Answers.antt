use Rattle.std.proofs.Common.{sym, ap, ◌∙◌, arith}
use Rattle.std.specs.Prelude.{option_copied}
use Rattle.ql_code.specs.Machine.{code_machine}
use Rattle.ql_proc.specs.Points.{point_of}
use Rattle.ql_host.proofs.Stepping.{idle_server_is}
use Rattle.ql_host.proofs.ready.is_idle_server.Goals as goal

pub returns : goal.returns
returns c =
    let m = code_machine c.args.code.now.instructions in
    let futures = c.args.shared.now.futures.states in
    let s = c.in-Some.server.now in
    c.waits_for_call.ensures
    ∙ rw (c.is_eager.ensures, c.turn.ensures, c.waiting.ensures)
    (idle_server_is m futures (m.want (point_of c.args.proc.now)) c.args.shared.now.calls.servers c.args.k s
    (sym c.server.ensures ∙ ap option_copied c.in-Some.is)
    (sym c.in_progress.ensures ∙ c.if-in_progress.false)
    (omega (arith, c.if-queued-gt0.false, c.queued.ensures)))
