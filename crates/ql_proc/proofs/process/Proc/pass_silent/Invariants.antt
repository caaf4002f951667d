use Rattle.std.proofs.Common.{◌≡◌, ◌≤◌}
use Rattle.ql_code.specs.declared.mark.State.TheVariants.{Running}
use Rattle.ql_code.specs.Machine.{settle, settled}
use Rattle.ql_proc.proofs.process.Proc.pass_silent.Given as goal

abbrev pub invariant-silent : goal.invariant-silent
invariant-silent l =
    (settle l.code.instructions l.left l.self.place l.self.stack.items ≡ settled l.code.instructions l.fn.self.place l.fn.self.stack.items)
    × ((l.self.state ≡ Running)
    × (l.fn.self.stack.room ≤ l.self.stack.room))

abbrev pub decreases-silent : goal.decreases-silent
decreases-silent l = l.left
