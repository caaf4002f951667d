use Rattle.std.proofs.Common.{arith}
use Rattle.ql_proc.proofs.Topmost
use Rattle.ql_proc.proofs.upper.last_marks.Goals as goal

pub returns : goal.returns
returns c = Topmost.last-of c.args.count c.args.marks.now (omega arith)
