use Rattle.ql_journal.proofs.Schedules
use Rattle.ql_journal.proofs.laws.one_tick.Goals as goal

pub returns : goal.returns
returns c = Schedules.one_tick
