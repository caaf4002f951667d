use Rattle.ql_code.specs.Machine.{cleanups_on}
use Rattle.ql_proc.proofs.Tops
use Rattle.ql_proc.proofs.process.Proc.cleanup.Goals as goal

pub returns : goal.returns
returns c = rw c.cleanup.ensures (Tops.first-is (cleanups_on c.args.self.now.stack.items))
