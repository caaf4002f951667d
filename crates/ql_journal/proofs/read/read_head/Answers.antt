use Rattle.ql_journal.proofs.Singles.{told_limits, tells_none}
use Rattle.ql_journal.proofs.read.read_head.Goals as goal

pub returns-clause-is : goal.returns-clause-is
returns-clause-is c = told_limits c.args.line.now c.head_in.result c.head_in.ensures

pub returns-clause-none : goal.returns-clause-none
returns-clause-none c = λ e. tells_none c.args.line.now c.head_in.result c.head_in.ensures e
