use Rattle.std.proofs.Common.{arith}
use Rattle.ql_proc.proofs.Insides
use Rattle.ql_proc.proofs.upper.all_but_one.Goals as goal

pub returns : goal.returns
returns c = Insides.without-last 1 c.args.marks.now (omega arith)
