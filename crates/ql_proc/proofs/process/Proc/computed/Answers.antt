use Rattle.std.proofs.Common.{sym, ◌∙◌}
use Rattle.ql_code.specs.Machine.{operand_count}
use Rattle.ql_code.specs.LocalPath.{untouched}
use Rattle.std.proofs.Common.{Some}
use Rattle.ql_proc.proofs.Nexts
use Rattle.ql_proc.proofs.process.Proc.computed.Goals as goal

pub returns : goal.returns
returns c =
    c.computed_alone.ensures ∙ Nexts.not-parts c.args.operator (untouched (operand_count (Some c.args.operator)) c.args.self.now.stack.items) (sym c.takes_apart.ensures ∙ c.if-takes_apart.false)
