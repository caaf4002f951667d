use Rattle.std.proofs.Common.{rules}
use Rattle.ql_vectors.proofs.Lines.{next_line}
use Rattle.ql_vectors.proofs.generate.generate.Goals as goal

pub blocks-2-preserved : goal.blocks-2-preserved
blocks-2-preserved c =
    next_line c.blocks-2.state c.next_state-state.result c.blocks-2.number c.args.size c.of_state.result c.blocks-2.text.items c.put_line.new.text.items _
    (search rules) c.blocks-2.invariant c.next_state-state.ensures c.of_state.ensures c.in_ok-put_line.ensures
