use Rattle.ql_cells.proofs.Ordered.{one_more}
use Rattle.ql_cells.proofs.cells.Cells.cons.Goals as goal

pub invariant_of-self-2 : goal.invariant_of-self-2
invariant_of-self-2 c =
    let allowed = c.is_full.ensures.allowed c.if-is_full.false in
    one_more _ c.args.self.now c.push_last.new.things.items c.args.a c.args.d c.self.view_is c.self.invariant.0 c.requires.first c.requires.second allowed c.in_ok-number.ensures.ok
