use Rattle.ql_proc.specs.Points.{point_of}
use Rattle.ql_host.proofs.ready.is_there.Goals as goal

pub returns-in-Exit : goal.returns-in-Exit
returns-in-Exit c = rw c.in-Exit.is (c.lets_go.ensures c.args.person (point_of c.args.proc.now))
