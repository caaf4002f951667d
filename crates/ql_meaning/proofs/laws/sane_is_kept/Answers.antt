use Rattle.ql_meaning.proofs.LegalRuns.{sane_along}
use Rattle.ql_meaning.proofs.laws.sane_is_kept.Goals as goal

pub returns : goal.returns
returns c = sane_along
