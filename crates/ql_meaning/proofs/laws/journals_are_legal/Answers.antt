use Rattle.ql_meaning.proofs.LegalRuns.{journals_always_legal}
use Rattle.ql_meaning.proofs.laws.journals_are_legal.Goals as goal

pub returns : goal.returns
returns c = journals_always_legal
