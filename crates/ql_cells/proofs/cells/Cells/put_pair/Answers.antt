use Rattle.ql_cells.proofs.Ordered.{one_more}
use Rattle.ql_cells.proofs.cells.Cells.put_pair.Goals as goal

pub invariant_of-self : goal.invariant_of-self
invariant_of-self c =
    one_more _ c.args.self.now c.put_last-number.new.things.items c.args.a c.args.d c.self.view_is c.self.invariant.0 c.requires.first c.requires.second c.requires.allowed c.put_last-number.ensures.items
