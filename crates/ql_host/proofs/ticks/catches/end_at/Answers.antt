use Rattle.std.proofs.Common.{ap, ◌∙◌, arith}
use Rattle.ql_code.specs.Machine.{ended}
use Rattle.ql_proc.specs.Points.{point_of}
use Rattle.ql_host.proofs.Killing.{set_numbered, numbered_got, numbered_within}
use Rattle.ql_host.proofs.ticks.catches.end_at.Goals as goal
use Rattle.ql_host.proofs.ticks.catches.end_at.Goals.{else-p-gt0-via-then-p-gt0+else-p-procs, else-p-gt0-via-else-p-gt0}

pub returns-then-p-procs-clause-points : goal.returns-then-p-procs-clause-points
returns-then-p-procs-clause-points c t e =
    set_numbered point_of (λ v. ended t.place) c.args.procs.now c.args.p c.index-procs-p.result c.end.new.self c.if-p-gt0.true c.if-p-procs.true
    (c.end.ensures.point ∙ ap (λ x. ended x.place) (numbered_got c.args.procs.now c.args.p c.index-procs-p.result t e))

pub returns-else-p-gt0-clause-points : goal.returns-else-p-gt0-clause-points
returns-else-p-gt0-clause-points c t e =
    let h = numbered_within c.args.procs.now c.args.p t e in
    elim c.else-p-gt0.branch [
      | else-p-gt0-via-then-p-gt0+else-p-procs w ↦ absurd (omega (arith, w.if-p-procs.false, h.1))
      | else-p-gt0-via-else-p-gt0 w ↦ absurd (omega (arith, w.if-p-gt0.false, h.0))
    ]
