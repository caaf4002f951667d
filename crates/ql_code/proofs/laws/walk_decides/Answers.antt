use Rattle.ql_code.proofs.WalkDecides.{decided}
use Rattle.ql_code.proofs.laws.walk_decides.Goals as goal

pub returns : goal.returns
returns c = decided
