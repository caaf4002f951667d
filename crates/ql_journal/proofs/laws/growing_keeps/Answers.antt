use Rattle.ql_journal.proofs.Keeps
use Rattle.ql_journal.proofs.laws.growing_keeps.Goals as goal

pub returns : goal.returns
returns c = Keeps.grows
