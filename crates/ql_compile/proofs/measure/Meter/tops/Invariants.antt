use Rattle.std.proofs.Common.{◌≡◌, drop}
use Rattle.ql_expand.specs.View.{cores_of}
use Rattle.ql_compile.specs.Measure.{counted, offsets_of_tops}
use Rattle.ql_compile.proofs.measure.Meter.tops.Given as goal

-- With what is left, as many are counted as in all.
abbrev pub invariant-loop-core : goal.invariant-loop-core
invariant-loop-core l = counted l.self (offsets_of_tops (cores_of (drop l.core-index l.cores))) ≡ counted l.fn.self (offsets_of_tops (cores_of l.cores))
