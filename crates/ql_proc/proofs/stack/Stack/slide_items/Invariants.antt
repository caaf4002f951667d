use Rattle.std.proofs.Common.{◌≡◌, ◌≤◌}
use Rattle.ql_code.specs.Machine.{slid}
use Rattle.ql_proc.proofs.stack.Stack.slide_items.Given as goal

abbrev pub invariant-items : goal.invariant-items
invariant-items l = (slid l.left l.self.items ≡ slid l.fn.count l.fn.self.items) × (l.fn.self.room ≤ l.self.room)

abbrev pub decreases-items : goal.decreases-items
decreases-items l = l.left
