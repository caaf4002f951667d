use Rattle.std.proofs.Common.{sym, ap, ◌∙◌}
use Rattle.std.specs.Option.{option_copied}
use Rattle.ql_world.specs.World.{ProcessClosure}
use Rattle.ql_code.specs.Machine.{Entry}
use Rattle.ql_host.proofs.ServerRows.{answered_server}
use Rattle.ql_host.proofs.ticks.replies.reply.Goals as goal

pub reply_eager-requires-clause-answers : goal.reply_eager-requires-clause-answers
reply_eager-requires-clause-answers c = (
  c.requires.answers,
  ap (λ (s : ProcessClosure Entry). s.eager) (sym (answered_server c.args.person c.args.shared.now c.requires.answers c.in-Closure.k c.in-Closure.is c.in-Some.server.now (sym c.server.ensures ∙ ap option_copied c.in-Some.is)))
      ∙ sym c.is_eager.ensures
      ∙ c.if-is_eager.true,
)

pub reply_plain-requires-clause-answers : goal.reply_plain-requires-clause-answers
reply_plain-requires-clause-answers c = (
  c.requires.answers,
  ap (λ (s : ProcessClosure Entry). s.eager) (sym (answered_server c.args.person c.args.shared.now c.requires.answers c.in-Closure.k c.in-Closure.is c.in-Some.server.now (sym c.server.ensures ∙ ap option_copied c.in-Some.is)))
      ∙ sym c.is_eager.ensures
      ∙ c.if-is_eager.false,
)
