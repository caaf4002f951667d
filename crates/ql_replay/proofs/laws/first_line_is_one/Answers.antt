use Rattle.ql_replay.proofs.One.{one_first}
use Rattle.ql_replay.proofs.laws.first_line_is_one.Goals as goal

pub returns : goal.returns
returns c = one_first
