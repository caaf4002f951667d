use Rattle.ql_replay.proofs.Singles.{head_read_is}
use Rattle.ql_replay.proofs.lines.read_head.Goals as goal

pub returns : goal.returns
returns c = head_read_is c.args.line.now c.read_head.result c.read_head.ensures.is c.read_head.ensures.none
