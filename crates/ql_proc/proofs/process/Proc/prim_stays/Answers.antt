use Rattle.std.proofs.Common.{sym, ◌∙◌}
use Rattle.ql_world.specs.Operator.{operator_of}
use Rattle.ql_proc.proofs.Nexts
use Rattle.ql_proc.proofs.process.Proc.prim_stays.Goals as goal

pub returns-in_default-computed : goal.returns-in_default-computed
returns-in_default-computed c =
    let self = c.args.self.now in
    Nexts.prim-missing c.args.code.now.instructions (operator_of c.args.symbol) c.in-Some.operator 63 self.place self.stack.items c.in-Some.ensures (sym c.in_default-computed.is ∙ c.computed.ensures)

pub returns : goal.returns
returns c =
    let self = c.args.self.now in
    Nexts.prim-goes c.args.code.now.instructions (operator_of c.args.symbol) c.in-Some.operator 63 self.place self.stack.items c.in-Some.ensures c.in-Some-computed.w _ c.in-Some-computed.ensures
    (rw c.operand_count.ensures at c.goes_on.ensures)
