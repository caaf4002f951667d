use Rattle.std.proofs.Common.{sym}
use Rattle.ql_tree.proofs.Counts.{running-none}
use Rattle.ql_tree.proofs.tree.Tree.all_ended.Goals as goal

pub returns : goal.returns
returns c = rw (← c.self.view_is, c.self.invariant.counted) (sym (running-none c.self.inside.persons.items))
