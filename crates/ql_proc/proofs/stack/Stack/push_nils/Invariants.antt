use Rattle.std.proofs.Common.{◌≡◌, ◌≤◌, ◌+◌, ◌-◌, ◌++◌, replicate}
use Rattle.ql_world.specs.Word.{nil}
use Rattle.ql_code.specs.Machine.{word}
use Rattle.ql_proc.proofs.stack.Stack.push_nils.Given as goal

abbrev pub invariant-nils : goal.invariant-nils
invariant-nils l =
    (replicate (l.count - l.n) (word nil) ++ l.self.items ≡ replicate l.count (word nil) ++ l.fn.self.items)
    × (l.fn.self.room ≤ l.self.room + l.n)
