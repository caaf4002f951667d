use Rattle.ql_read.proofs.Refusals.{one_fault}
use Rattle.ql_read.proofs.laws.a_text_has_at_most_one_fault.Goals as goal

pub returns : goal.returns
returns c = one_fault
