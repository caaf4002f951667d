use Rattle.std.proofs.Common.{drop}
use Rattle.ql_expand.specs.View.{cores_of, bounds_of}
use Rattle.ql_compile.specs.Compile.{free_in_cores, free_in_values}
use Rattle.ql_compile.specs.Free.{Gathered, Finds}
use Rattle.ql_compile.proofs.free.Walk.+free.Given as goal

-- With what is in the rest, what is in the whole was gathered.
abbrev pub invariant-cores-loop-core : goal.invariant-cores-loop-core
invariant-cores-loop-core l =
    (w : Gathered) → Finds l.self w (free_in_cores (cores_of (drop l.core-index l.cores))) → Finds l.fn.self w (free_in_cores (cores_of l.cores))

abbrev pub invariant-values-loop-bound : goal.invariant-values-loop-bound
invariant-values-loop-bound l =
    (w : Gathered) → Finds l.self w (free_in_values (bounds_of (drop l.bound-index l.binds))) → Finds l.fn.self w (free_in_values (bounds_of l.binds))
