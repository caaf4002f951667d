use Rattle.std.proofs.Common.{◌≡◌, drop, ◌++◌, ◌∷◌, []}
use Rattle.ql_expand.specs.View.{bounds_of, cores_of}
use Rattle.ql_compile.specs.Measure.{counted, offsets_of_cores, offsets_of_forms, offsets_of_joined, offsets_of_values}
use Rattle.ql_compile.proofs.measure.Meter.+walk.Given as goal

-- With what is left, as many are counted as in all.
abbrev pub invariant-cores-loop-core : goal.invariant-cores-loop-core
invariant-cores-loop-core l = counted l.self (offsets_of_cores (cores_of (drop l.core-index l.cores))) ≡ counted l.fn.self (offsets_of_cores (cores_of l.cores))

abbrev pub invariant-values-loop-bound : goal.invariant-values-loop-bound
invariant-values-loop-bound l = counted l.self (offsets_of_values (bounds_of (drop l.bound-index l.binds))) ≡ counted l.fn.self (offsets_of_values (bounds_of l.binds))

abbrev pub invariant-joined-loop-bound : goal.invariant-joined-loop-bound
invariant-joined-loop-bound l = counted l.self (offsets_of_joined (bounds_of (drop l.bound-index l.binds))) ≡ counted l.fn.self (offsets_of_joined (bounds_of l.binds))

abbrev pub invariant-forms-loop-form : goal.invariant-forms-loop-form
invariant-forms-loop-form l = counted l.self (offsets_of_forms l.fn.at.0 (cores_of (drop l.form-index l.others ++ l.last ∷ []))) ≡ counted l.fn.self (offsets_of_forms l.fn.at.0 (cores_of l.fn.forms))
