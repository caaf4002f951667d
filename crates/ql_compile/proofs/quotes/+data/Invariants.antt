use Rattle.std.proofs.Common.{◌≡◌, ◌++◌, drop}
use Rattle.ql_expand.specs.View.{bounds_of, cores_of}
use Rattle.ql_meaning.specs.Context.{data_in_bounds, data_in_cores}
use Rattle.ql_compile.specs.Quoting.{data_at}
use Rattle.ql_compile.proofs.quotes.+data.Given as goal

-- the data so far and those of the rest are all
abbrev pub invariant-put_bounds_data-loop-bound : goal.invariant-put_bounds_data-loop-bound
invariant-put_bounds_data-loop-bound l =
    data_at l.found.items ++ data_in_bounds (bounds_of (drop l.bound-index l.binds)) ≡ data_at l.fn.found.items ++ data_in_bounds (bounds_of l.binds)

abbrev pub invariant-put_cores_data-loop-core : goal.invariant-put_cores_data-loop-core
invariant-put_cores_data-loop-core l =
    data_at l.found.items ++ data_in_cores (cores_of (drop l.core-index l.cores)) ≡ data_at l.fn.found.items ++ data_in_cores (cores_of l.cores)
