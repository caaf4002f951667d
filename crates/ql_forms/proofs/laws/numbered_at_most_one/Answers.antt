use Rattle.ql_forms.proofs.SameNumbers.{same_numbering}
use Rattle.ql_forms.proofs.laws.numbered_at_most_one.Goals as goal

pub returns : goal.returns
returns c = same_numbering
