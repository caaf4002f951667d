use Rattle.std.proofs.Common.{Some, sym, ap, ◌∙◌}
use Rattle.ql_host.proofs.Steps.{answers_at}
use Rattle.ql_host.proofs.step.go_back.Goals as goal

pub reply-requires-clause-answers : goal.reply-requires-clause-answers
reply-requires-clause-answers c =
    answers_at c.args.s c.args.p c.args.person c.args.shared.now c.requires.can.0 c.args.proc.now c.requires.can.1
    c.args.at c.requires.here c.requires.calm c.in-Some-Base.field-0-0 (sym c.top_mark.ensures ∙ c.in-Some-Base.is ∙ ap Some c.in-Some-Base.field-0-is)
