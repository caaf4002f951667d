use Rattle.ql_top.proofs.Telling.{writes_check}
use Rattle.ql_top.proofs.top.texts_of_check.Goals as goal

pub returns-in-Ok-clause-texts : goal.returns-in-Ok-clause-texts
returns-in-Ok-clause-texts c names forms p made = record { program = p; makes = made; writes = writes_check names forms p c.in-Ok.output.items c.in-Ok.ensures.items }
