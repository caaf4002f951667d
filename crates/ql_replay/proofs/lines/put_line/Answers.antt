use Rattle.ql_replay.proofs.Long.{put_short}
use Rattle.ql_replay.proofs.lines.put_line.Goals as goal

pub returns-clause-short : goal.returns-clause-short
returns-clause-short c = put_short c.put.result c.put.new.to.items c.args.texts c.args.event.now c.know_low.ensures c.put.ensures
