use Rattle.std.proofs.Common.{sym, ap, ◌∙◌}
use Rattle.std.specs.Prelude.{option_copied}
use Rattle.ql_host.proofs.Stepping.{no_person, no_proc, absent_rests, ended_rests, ready_steps}
use Rattle.ql_host.proofs.ready.can_step.Goals as goal

pub returns-in_default : goal.returns-in_default
returns-in_default c =
    absent_rests c.args.s c.args.shared.now c.args.procs.now c.args.p (no_person c.args.shared.now.tree.persons c.args.procs.now c.args.p (sym c.person.ensures ∙ c.in_default.is))

pub returns-in_default-proc_at : goal.returns-in_default-proc_at
returns-in_default-proc_at c =
    absent_rests c.args.s c.args.shared.now c.args.procs.now c.args.p (no_proc c.args.shared.now.tree.persons c.args.procs.now c.args.p (sym c.proc_at.ensures ∙ ap option_copied c.in_default-proc_at.is))

pub returns-then-person : goal.returns-then-person
returns-then-person c =
    ended_rests c.args.s c.args.shared.now c.args.procs.now c.args.p c.in-Some.person c.in-Some-proc_at.proc.now (sym c.person.ensures ∙ c.in-Some.is) (sym c.proc_at.ensures ∙ ap option_copied c.in-Some-proc_at.is) c.if-person.true

pub returns : goal.returns
returns c =
    c.is_there.ensures
    ∙ rw c.waiting.ensures
    (ready_steps c.args.s c.args.shared.now c.args.procs.now c.args.p c.in-Some.person c.in-Some-proc_at.proc.now (sym c.person.ensures ∙ c.in-Some.is) (sym c.proc_at.ensures ∙ ap option_copied c.in-Some-proc_at.is) c.if-person.false)
