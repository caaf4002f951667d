use Rattle.std.proofs.Common.{◌≡◌, ◌+◌, ◌-◌, ◌++◌}
use Rattle.ql_world.specs.World.{numbers}
use Rattle.ql_host.proofs.turns.numbers_from.Given as goal

abbrev pub invariant-numbers : goal.invariant-numbers
invariant-numbers l = l.made.items ++ numbers (l.first + l.n) (l.count - l.n) ≡ numbers l.first l.count
