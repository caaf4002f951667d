use Rattle.ql_journal.proofs.Journals
use Rattle.ql_journal.proofs.laws.one_verdict.Goals as goal

pub returns : goal.returns
returns c = Journals.one_verdict
