use Rattle.ql_read.proofs.Refusals.{fault_stays}
use Rattle.ql_read.proofs.laws.a_fault_stays.Goals as goal

pub returns : goal.returns
returns c = fault_stays
