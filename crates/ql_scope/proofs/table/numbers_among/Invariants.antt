use Rattle.std.proofs.Common.{◌≡◌, ℕ, ◌≤◌, None, is_some, get_or, drop, length}
use Rattle.ql_scope.specs.Scope.{is_among}
use Rattle.ql_scope.proofs.table.numbers_among.Given as goal

abbrev pub invariant-loop-rest : goal.invariant-loop-rest
invariant-loop-rest l = (l.rest ≤ length l.numbers) × ((n : ℕ) → is_some (get_or l.table.items n None) ≡ is_among n (drop l.rest l.numbers))

abbrev pub decreases-loop-rest : goal.decreases-loop-rest
decreases-loop-rest l = l.rest
