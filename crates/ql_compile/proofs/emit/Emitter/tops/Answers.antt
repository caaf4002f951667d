use Rattle.std.proofs.Common.{◌≡◌, ◌∙◌, ◌+◌, ◌<◌, refl, ap, arith, length, drop}
use Rattle.std.proofs.lemmas.List.{drop_all}
use Rattle.ql_expand.specs.View.{core_of, cores_of}
use Rattle.ql_meaning.specs.Context.{offset_of}
use Rattle.ql_compile.proofs.Rests.{drop_is}
use Rattle.ql_expand.specs.Opened.{opened}
use Rattle.ql_compile.proofs.Framed.{nothing_left, top_one}
use Rattle.ql_compile.proofs.emit.Emitter.tops.Goals as goal

pub loop-core-init : goal.loop-core-init
loop-core-init c = record { frame = c.requires; rest = refl }

pub loop-core-preserved : goal.loop-core-preserved
loop-core-preserved c =
    let i = c.loop-core.core-index in
    let at : i < length c.args.cores.now = omega arith in
    let here = drop_is c.args.cores.now i c.core-item.result at c.core-item.is in
    let place : offset_of (core_of c.core-item.result) ≡ c.core-item.result.at.0 = ap offset_of (opened c.core-item.result) in
    record {
      frame = ap (λ e. e.frame) c.in_ok-add.ensures ∙ (ap (λ e. e.frame) c.in_ok-core.ensures ∙ c.loop-core.invariant.frame);
      rest = top_one (core_of c.core-item.result) (cores_of (drop (i + 1) c.args.cores.now)) c.loop-core.self c.core.new.self c.add.new.self _ c.loop-core.invariant.frame c.in_ok-core.ensures (rw place c.in_ok-add.ensures) (rw here at c.loop-core.invariant.rest);
    }

pub returns : goal.returns
returns c =
    let none = drop_all c.loop-core.core-index c.args.cores.now c.loop-core-test.false in
    nothing_left c.loop-core.self _ (rw none at c.loop-core.invariant.rest)
