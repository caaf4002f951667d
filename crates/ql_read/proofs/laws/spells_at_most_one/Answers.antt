use Rattle.ql_read.proofs.GoesOn.{one_reading}
use Rattle.ql_read.proofs.laws.spells_at_most_one.Goals as goal

pub returns : goal.returns
returns c = one_reading
