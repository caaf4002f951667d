use Rattle.ql_proc.proofs.Aims
use Rattle.ql_proc.proofs.marks.aim_among.Goals as goal

pub returns-in-Cleaning : goal.returns-in-Cleaning
returns-in-Cleaning c = Aims.aimed-here c.args.aim c.marks.marks _ c.marks.at _ c.in-Cleaning.u c.in-Cleaning.cleanup c.marks-test.true c.marks.invariant.0 c.in-Cleaning.is c.marks.invariant.1
