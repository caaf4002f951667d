use Rattle.std.proofs.Common.{sym, arith, map}
use Rattle.std.proofs.lemmas.List.{length-map}
use Rattle.ql_world.specs.Idle.{unwinds_at}
use Rattle.ql_code.specs.Machine.{code_machine}
use Rattle.ql_proc.specs.Points.{point_of}
use Rattle.ql_host.proofs.Killing.{set_numbered, others_stay, changed_past, changed_none}
use Rattle.ql_host.proofs.kill.unwind_at.Goals as goal
use Rattle.ql_host.proofs.kill.unwind_at.Goals.{else-n-gt0-via-then-n-gt0+else-n-procs, else-n-gt0-via-else-n-gt0}

pub returns-then-n-procs-clause-points : goal.returns-then-n-procs-clause-points
returns-then-n-procs-clause-points c code =
    set_numbered point_of (unwinds_at (code_machine code)) c.args.procs.now c.args.n c.index-procs-n.result c.unwind.new.proc c.if-n-gt0.true c.if-n-procs.true (c.unwind.ensures code)

pub returns-then-n-procs-clause-others : goal.returns-then-n-procs-clause-others
returns-then-n-procs-clause-others c m h = others_stay c.args.procs.now c.args.n m c.unwind.new.proc c.if-n-gt0.true h

pub returns-else-n-gt0-clause-points : goal.returns-else-n-gt0-clause-points
returns-else-n-gt0-clause-points c code =
    elim c.else-n-gt0.branch [
      | else-n-gt0-via-then-n-gt0+else-n-procs w ↦ sym (changed_past (unwinds_at (code_machine code)) (map point_of c.args.procs.now) c.args.n (omega (arith, w.if-n-procs.false, length-map c.args.procs.now point_of)))
      | else-n-gt0-via-else-n-gt0 w ↦ sym (changed_none (unwinds_at (code_machine code)) (map point_of c.args.procs.now) c.args.n (omega (arith, w.if-n-gt0.false)))
    ]
