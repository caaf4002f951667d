use Rattle.ql_journal.proofs.Journals.{same_text}
use Rattle.ql_journal.proofs.laws.one_text.Goals as goal

pub returns : goal.returns
returns c = same_text
