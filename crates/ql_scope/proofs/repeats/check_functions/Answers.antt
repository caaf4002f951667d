use Rattle.std.proofs.Common.{◌+◌, ◌<◌, ◌∷◌, [], arith, length, map, drop}
use Rattle.ql_expand.specs.View.{function_of}
use Rattle.ql_scope.specs.Scope.{names_at, repeated_functions, twice_faults}
use Rattle.ql_scope.proofs.Added.{name_one, drop_is}
use Rattle.ql_scope.proofs.repeats.check_functions.Goals as goal

pub loop-function-preserved : goal.loop-function-preserved
loop-function-preserved c =
    let f = c.function-item.result in
    let at : c.loop-function.function-index < length c.args.functions.now = omega arith in
    let here = drop_is c.args.functions.now c.loop-function.function-index f at c.function-item.is in
    name_one c.loop-function.first c.check_name.new.first _ c.loop-function.before c.check_name.new.before (f.name ∷ []) (twice_faults (names_at c.loop-function.before) f.named.0 f.name)
    (λ ns. repeated_functions ns (map function_of (drop (c.loop-function.function-index + 1) c.args.functions.now)))
    c.in_ok-check_name.ensures.first c.in_ok-check_name.ensures.before (rw here at c.loop-function.invariant)
