use Rattle.std.proofs.Common.{◌∙◌, sym, ap, length}
use Rattle.ql_compile.proofs.Slotted.{rows_length}
use Rattle.ql_compile.proofs.frame.Frame.len.Goals as goal

pub returns : goal.returns
returns c = ap length c.as_slice.ensures.value ∙ (sym (rows_length c.self.inside.rows.items) ∙ ap length c.self.view_is)
