use Rattle.std.proofs.Common.{◌∙◌, arith}
use Rattle.ql_world.specs.Word.{nil}
use Rattle.ql_code.specs.Machine.{word}
use Rattle.ql_proc.proofs.Words
use Rattle.ql_proc.proofs.stack.Stack.push_nils.Goals as goal

pub nils-preserved : goal.nils-preserved
nils-preserved c = (
  rw c.push.ensures.items (Words.replicate-on c.args.count c.nils.n (word nil) c.nils.self.items c.nils-test.true ∙ c.nils.invariant.0),
  omega (arith, c.nils.invariant.1, c.push.ensures.room),
)
