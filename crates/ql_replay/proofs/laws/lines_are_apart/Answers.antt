use Rattle.ql_replay.proofs.Early.{lines_are_apart}
use Rattle.ql_replay.proofs.laws.lines_are_apart.Goals as goal

pub returns : goal.returns
returns c = lines_are_apart
