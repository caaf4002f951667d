use Rattle.ql_code.proofs.Progress.{tick_there}
use Rattle.ql_code.proofs.laws.ticks_go_on.Goals as goal

pub returns : goal.returns
returns c = tick_there
