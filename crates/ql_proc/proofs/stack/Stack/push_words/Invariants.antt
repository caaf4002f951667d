use Rattle.std.proofs.Common.{◌≡◌, ◌≤◌, ◌+◌, drop}
use Rattle.ql_code.specs.Machine.{push}
use Rattle.ql_proc.proofs.stack.Stack.push_words.Given as goal

abbrev pub invariant-words : goal.invariant-words
invariant-words l =
    (push (drop l.w-index l.more) l.self.items ≡ push l.fn.more l.fn.self.items)
    × (l.fn.self.room ≤ l.self.room + l.w-index)
