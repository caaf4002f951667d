use Rattle.ql_meaning.proofs.LegalRuns.{killed_always_clean_up}
use Rattle.ql_meaning.proofs.laws.killed_only_clean_up.Goals as goal

pub returns : goal.returns
returns c = killed_always_clean_up
