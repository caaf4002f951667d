use Rattle.std.proofs.Common.{◌∙◌, ◌++◌, ◌∷◌, [], ap}
use Rattle.ql_code.specs.Code.{instruction}
use Rattle.ql_compile.proofs.Instructions.{one_more}
use Rattle.ql_compile.proofs.output.Output.push.Goals as goal

pub returns : goal.returns
returns c =
    rw (c.in_default.ensures.ok, c.in_ok-push_one.ensures.ok)
    (one_more c.self.inside.ops.items c.self.inside.offsets.items c.args.op c.args.at c.self.invariant ∙ ap (λ is. is ++ instruction c.args.op c.args.at.0 ∷ []) c.self.view_is)
