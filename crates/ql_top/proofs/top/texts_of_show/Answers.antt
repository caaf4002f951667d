use Rattle.ql_top.proofs.Telling.{writes_show}
use Rattle.ql_top.proofs.top.texts_of_show.Goals as goal

pub returns-in-Ok-clause-texts : goal.returns-in-Ok-clause-texts
returns-in-Ok-clause-texts c p made = record { program = p; makes = made; writes = writes_show _ _ p c.in-Ok.output.items c.in-Ok.ensures }
