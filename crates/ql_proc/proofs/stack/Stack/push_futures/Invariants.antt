use Rattle.std.proofs.Common.{◌≡◌, ◌≤◌, ◌+◌, ◌-◌, map}
use Rattle.ql_world.specs.declared.word.Word.TheVariants.{Fut as future}
use Rattle.ql_world.specs.World.{numbers}
use Rattle.ql_code.specs.Machine.{push}
use Rattle.ql_proc.proofs.stack.Stack.push_futures.Given as goal

abbrev pub invariant-futures : goal.invariant-futures
invariant-futures l =
    (push (map future (numbers (l.first + l.n) (l.count - l.n))) l.self.items ≡ push (map future (numbers l.first l.count)) l.fn.self.items)
    × (l.fn.self.room ≤ l.self.room + l.n)
