use Rattle.std.proofs.Common.{◌≡◌, ◌≤◌, ◌+◌, None, drop, length, map}
use Rattle.ql_expand.specs.View.{function_of}
use Rattle.ql_compile.specs.Compile.{places_from}
use Rattle.ql_compile.specs.Measure.{counted, offsets_of_functions}
use Rattle.ql_compile.proofs.Measuring.{Going}
use Rattle.ql_compile.proofs.measure.Meter.functions.Given as goal

-- With what is left, as many are counted as in all; unless they are too many, all places are found.
abbrev pub invariant-loop-function : goal.invariant-loop-function
invariant-loop-function l =
    (counted l.self (offsets_of_functions (map function_of (drop l.function-index l.functions))) ≡ counted l.fn.self (offsets_of_functions (map function_of l.functions)))
    × (l.fn.self.over ≡ None → l.fn.self.count + length (offsets_of_functions (map function_of l.functions)) ≤ 65535
    → Going l.self (map function_of (drop l.function-index l.functions)) l.places.items (map (λ f. f.1) (places_from l.fn.self.count (map function_of l.functions))))
