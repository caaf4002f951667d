use Rattle.ql_replay.proofs.Long.{long_lines_differ}
use Rattle.ql_replay.proofs.laws.long_lines_differ.Goals as goal

pub returns : goal.returns
returns c = long_lines_differ
