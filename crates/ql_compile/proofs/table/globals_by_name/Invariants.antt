use Rattle.std.proofs.Common.{◌≡◌, ◌+◌, ◌≤◌, ℕ, None, drop, get_or, length}
use Rattle.std.specs.Prelude.{option_map}
use Rattle.ql_meaning.specs.Context.{place_of}
use Rattle.ql_compile.proofs.table.globals_by_name.Given as goal

abbrev pub invariant-loop-rest : goal.invariant-loop-rest
invariant-loop-rest l =
    (l.rest ≤ length l.globals) × ((n : ℕ) → get_or l.table.items n None ≡ option_map (λ i. i + l.rest) (place_of (drop l.rest l.globals) n))

abbrev pub decreases-loop-rest : goal.decreases-loop-rest
decreases-loop-rest l = l.rest
