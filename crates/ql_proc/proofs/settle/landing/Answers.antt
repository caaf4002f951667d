use Rattle.std.proofs.Common.{sym, ap, ◌∙◌, Some}
use Rattle.ql_proc.proofs.Louds
use Rattle.ql_proc.proofs.settle.landing.Goals as goal

pub returns-in-Jump : goal.returns-in-Jump
returns-in-Jump c = λ st. Louds.jump-lands c.args.code.now.instructions c.args.place c.in-Jump.to st (c.in-Some.ensures.found ∙ ap Some c.in-Jump.is) (sym c.is_loud.ensures ∙ c.if-is_loud.true)

pub returns-in_default-2 : goal.returns-in_default-2
returns-in_default-2 c = λ st. Louds.lands c.args.code.now.instructions c.args.place c.in-Some.op.now st c.in-Some.ensures.found (sym c.is_silent.ensures ∙ c.if-is_silent.false)
