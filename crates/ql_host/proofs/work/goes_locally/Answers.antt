use Rattle.std.proofs.Common.{◌∙◌}
use Rattle.ql_host.proofs.Works.{ended_is_away, aim_is_other}
use Rattle.ql_host.proofs.work.goes_locally.Goals as goal

pub returns-then-person : goal.returns-then-person
returns-then-person c = ended_is_away c.args.s c.args.proc.now c.args.person.aim c.args.person.ended c.if-person.true

pub returns : goal.returns
returns c = c.next_is_local.ensures ∙ aim_is_other c.args.s c.args.proc.now c.args.person.aim c.args.person.ended c.if-person.false
