use Rattle.std.proofs.Common.{◌≡◌, ◌≤◌, ◌+◌, ◌*◌, ◌-◌, ◌++◌, length}
use Rattle.ql_world.specs.Text.{value_text}
use Rattle.ql_world.specs.Parts.{parts_text, ArePartsBefore}
use Rattle.ql_world.proofs.text.value_text.Given as goal

abbrev pub invariant-parts : goal.invariant-parts
invariant-parts l =
    (l.text.items ++ parts_text l.names l.pairs l.todo.items ≡ value_text l.names l.pairs l.fn.w)
    × ArePartsBefore (length l.pairs) l.todo.items
    × (length l.text.items ≤ l.cap)

abbrev pub decreases-parts : goal.decreases-parts
decreases-parts l = 2 * (l.cap + 1 - length l.text.items) + length l.todo.items
