use Rattle.std.proofs.Common.{◌<◌, ap, subst, ◌∙◌, ◌+◌, ◌∷◌, length, arith}
use Rattle.ql_proc.specs.declared.process.Proc.{Proc}
use Rattle.ql_code.specs.Machine.{slot, settled}
use Rattle.ql_proc.specs.Points.{point_of}
use Rattle.ql_host.proofs.Killing.{set_numbered, numbered_got, numbered_within, numbered_there}
use Rattle.ql_host.proofs.ticks.catches.exit_at.Goals as goal
use Rattle.ql_host.proofs.ticks.catches.exit_at.Goals.{else-p-gt0-via-then-p-gt0+else-p-procs, else-p-gt0-via-else-p-gt0}

pub exit-requires : goal.exit-requires
exit-requires c =
    subst (λ (x : Proc). x.place < length c.args.code.now.instructions) c.index-procs-p.is
    (c.requires c.index-procs-p.result (numbered_there c.args.procs.now c.args.p c.index-procs-p.result c.if-p-gt0.true c.if-p-procs.true c.index-procs-p.is))

pub returns-then-p-procs-clause-points : goal.returns-then-p-procs-clause-points
returns-then-p-procs-clause-points c t x k rest e f =
    let code = c.args.code.now.instructions in
    let got = numbered_got c.args.procs.now c.args.p c.index-procs-p.result t e in
    set_numbered point_of (λ v. settled code (t.place + 1) (slot x ∷ rest)) c.args.procs.now c.args.p c.index-procs-p.result c.exit.new.self c.if-p-gt0.true c.if-p-procs.true
    (c.exit.ensures.point x k rest (ap (λ y. y.stack.items) got ∙ f) ∙ ap (λ y. settled code (y.place + 1) (slot x ∷ rest)) got)

pub returns-else-p-gt0-clause-points : goal.returns-else-p-gt0-clause-points
returns-else-p-gt0-clause-points c t x k rest e f =
    let h = numbered_within c.args.procs.now c.args.p t e in
    elim c.else-p-gt0.branch [
      | else-p-gt0-via-then-p-gt0+else-p-procs w ↦ absurd (omega (arith, w.if-p-procs.false, h.1))
      | else-p-gt0-via-else-p-gt0 w ↦ absurd (omega (arith, w.if-p-gt0.false, h.0))
    ]
