use Rattle.std.proofs.Common.{◌≡◌, ◌≤◌, length}
use Rattle.ql_code.specs.Machine.{unwind}
use Rattle.ql_proc.proofs.stack.Stack.unwind.Given as goal

abbrev pub invariant-calls : goal.invariant-calls
invariant-calls l = (unwind l.self.items ≡ unwind l.fn.self.items) × (l.fn.self.room ≤ l.self.room)

abbrev pub decreases-calls : goal.decreases-calls
decreases-calls l = length l.self.items
