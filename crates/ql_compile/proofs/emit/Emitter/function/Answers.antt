use Rattle.ql_expand.specs.View.{binders_of, core_of}
use Rattle.ql_compile.proofs.Framed.{function_codes}
use Rattle.ql_compile.proofs.emit.Emitter.function.Goals as goal

pub returns : goal.returns
returns c =
    let f = c.args.function.now in
    function_codes f.at.0 f.name f.named.0 (binders_of f.params) (core_of f.body) c.args.self.now c.core.new.self c.add.new.self c.push_variables.new.frame c.keep.new.self c.len-outer.result
    c.requires c.len-outer.ensures (rw c.as_slice.ensures at c.in_ok-push_variables.ensures) c.in_ok-core.ensures c.in_ok-add.ensures c.keep.ensures
