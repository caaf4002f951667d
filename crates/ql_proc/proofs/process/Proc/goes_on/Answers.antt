use Rattle.std.proofs.Common.{◌∙◌, ap, drop, length, arith}
use Rattle.std.proofs.lemmas.List.{length-reverse}
use Rattle.ql_proc.proofs.Nexts
use Rattle.ql_proc.proofs.process.Proc.goes_on.Goals as goal

pub lowered-under-requires : goal.lowered-under-requires
lowered-under-requires c = omega (arith, c.requires, length-reverse c.loose.result.now, ap length c.loose.ensures)

pub returns : goal.returns
returns c =
    c.stays.ensures
    ∙ Nexts.goes c.args.code.now.instructions 63 c.args.place c.args.count c.args.top c.args.self.now.stack.items _ _ c.mark.ensures (c.lowered-under.ensures ∙ ap (drop c.args.count) c.loose.ensures) c.requires
