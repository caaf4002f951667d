use Rattle.std.proofs.Common.{◌∙◌, ◌+◌, ◌<◌, refl, ap, arith, length, drop, map}
use Rattle.std.proofs.lemmas.List.{drop_all}
use Rattle.ql_expand.specs.View.{function_of}
use Rattle.ql_compile.proofs.Rests.{drop_is}
use Rattle.ql_compile.proofs.Framed.{function_one, nothing_left}
use Rattle.ql_compile.proofs.emit.Emitter.functions.Goals as goal

pub loop-function-init : goal.loop-function-init
loop-function-init c = record { frame = c.requires; rest = refl }

pub function-requires : goal.function-requires
function-requires c = c.loop-function.invariant.frame

pub loop-function-preserved : goal.loop-function-preserved
loop-function-preserved c =
    let i = c.loop-function.function-index in
    let at : i < length c.args.functions.now = omega arith in
    let here = drop_is c.args.functions.now i c.function-item.result at c.function-item.is in
    record {
      frame = ap (λ e. e.frame) c.in_ok-function.ensures ∙ c.loop-function.invariant.frame;
      rest = function_one (function_of c.function-item.result) (map function_of (drop (i + 1) c.args.functions.now)) c.loop-function.self c.function.new.self _ c.in_ok-function.ensures (rw here at c.loop-function.invariant.rest);
    }

pub returns : goal.returns
returns c =
    let none = drop_all c.loop-function.function-index c.args.functions.now c.loop-function-test.false in
    nothing_left c.loop-function.self _ (rw none at c.loop-function.invariant.rest)
