use Rattle.ql_read.proofs.Refusals.{fault_spells}
use Rattle.ql_read.proofs.laws.what_has_a_fault_spells_nothing.Goals as goal

pub returns : goal.returns
returns c = fault_spells
