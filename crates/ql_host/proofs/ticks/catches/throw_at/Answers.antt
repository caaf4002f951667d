use Rattle.std.proofs.Common.{ap, ◌∙◌, arith}
use Rattle.std.specs.Prelude.{drop as without_first}
use Rattle.ql_code.specs.Machine.{unwind_point, aim_cleanup}
use Rattle.ql_proc.specs.Points.{point_of}
use Rattle.ql_host.proofs.Killing.{set_numbered, numbered_got, numbered_within}
use Rattle.ql_host.proofs.ticks.catches.throw_at.Goals as goal
use Rattle.ql_host.proofs.ticks.catches.throw_at.Goals.{else-p-gt0-via-then-p-gt0+else-p-procs, else-p-gt0-via-else-p-gt0}

pub returns-then-p-procs-clause-points : goal.returns-then-p-procs-clause-points
returns-then-p-procs-clause-points c t e =
    set_numbered point_of (λ v. unwind_point t.place (aim_cleanup c.args.aim (without_first 2 t.stack.items))) c.args.procs.now c.args.p c.index-procs-p.result c.throw_in_cleanup.new.self c.if-p-gt0.true c.if-p-procs.true
    (c.throw_in_cleanup.ensures.point ∙ ap (λ x. unwind_point x.place (aim_cleanup c.args.aim (without_first 2 x.stack.items))) (numbered_got c.args.procs.now c.args.p c.index-procs-p.result t e))

pub returns-else-p-gt0-clause-points : goal.returns-else-p-gt0-clause-points
returns-else-p-gt0-clause-points c t e =
    let h = numbered_within c.args.procs.now c.args.p t e in
    elim c.else-p-gt0.branch [
      | else-p-gt0-via-then-p-gt0+else-p-procs w ↦ absurd (omega (arith, w.if-p-procs.false, h.1))
      | else-p-gt0-via-else-p-gt0 w ↦ absurd (omega (arith, w.if-p-gt0.false, h.0))
    ]
