use Rattle.std.proofs.Common.{◌≡◌, ◌≤◌, ℕ, None, drop, get_or, length}
use Rattle.ql_compile.specs.Named.{entry_named}
use Rattle.ql_compile.proofs.table.functions_by_name.Given as goal

abbrev pub invariant-loop-rest : goal.invariant-loop-rest
invariant-loop-rest l =
    (l.rest ≤ length l.functions) × (l.rest ≤ length l.entries)
    × ((n : ℕ) → get_or l.table.items n None ≡ entry_named (drop l.rest l.functions) (drop l.rest l.entries) n)

abbrev pub decreases-loop-rest : goal.decreases-loop-rest
decreases-loop-rest l = l.rest
