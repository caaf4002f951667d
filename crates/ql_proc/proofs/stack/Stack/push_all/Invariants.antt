use Rattle.std.proofs.Common.{◌≡◌, ◌≤◌, ◌+◌, drop}
use Rattle.ql_code.specs.Machine.{push_slots}
use Rattle.ql_proc.proofs.stack.Stack.push_all.Given as goal

abbrev pub invariant-slots : goal.invariant-slots
invariant-slots l =
    (push_slots (drop l.slot-index l.more) l.self.items ≡ push_slots l.fn.more l.fn.self.items)
    × (l.fn.self.room ≤ l.self.room + l.slot-index)
