use Rattle.ql_code.specs.Machine.{cleanups_on}
use Rattle.ql_proc.proofs.Tops
use Rattle.ql_proc.proofs.process.Proc.outer_cleanup.Goals as goal

pub returns : goal.returns
returns c = rw c.outer_cleanup.ensures (Tops.second-is (cleanups_on c.args.self.now.stack.items))
