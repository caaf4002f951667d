use Rattle.std.proofs.Common.{◌+◌, ◌<◌, arith, length, drop}
use Rattle.ql_expand.specs.View.{core_of, cores_of}
use Rattle.ql_scope.specs.Scope.{global_at, names_at, repeated_global, repeated_globals}
use Rattle.ql_scope.proofs.Added.{name_one, drop_is}
use Rattle.ql_scope.proofs.repeats.check_globals.Goals as goal

pub loop-core-preserved : goal.loop-core-preserved
loop-core-preserved c =
    let x = c.core-item.result in
    let at : c.loop-core.core-index < length c.args.body.now = omega arith in
    let here = drop_is c.args.body.now c.loop-core.core-index x at c.core-item.is in
    name_one c.loop-core.first c.check_global.new.first _ c.loop-core.before c.check_global.new.before (global_at (core_of x)) (repeated_global (names_at c.loop-core.before) (core_of x))
    (λ ns. repeated_globals ns (cores_of (drop (c.loop-core.core-index + 1) c.args.body.now)))
    c.in_ok-check_global.ensures.first c.in_ok-check_global.ensures.before (rw here at c.loop-core.invariant)
