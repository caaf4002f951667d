use Rattle.std.proofs.Common.{◌∙◌, ap, sym, length}
use Rattle.ql_code.proofs.Instructions.{as_many}
use Rattle.ql_code.proofs.code.Code.len.Goals as goal

pub returns-clause-count : goal.returns-clause-count
returns-clause-count c =
    c.len.ensures ∙ c.self.inside.ops.ok.0 ∙ sym (as_many c.self.inside.ops.items c.self.inside.offsets.items c.self.invariant.0) ∙ ap (λ k. length k.instructions) c.self.view_is
