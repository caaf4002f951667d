use Rattle.std.proofs.Common.{sym, ap, ◌∙◌, ◌∷◌, drop}
use Rattle.ql_code.specs.declared.mark.Mark.TheVariants.{Returning}
use Rattle.ql_code.specs.Machine.{mark, settled}
use Rattle.ql_proc.proofs.Ticks
use Rattle.ql_proc.proofs.process.Proc.call_plain.Goals as goal

pub returns-clause-point : goal.returns-clause-point
returns-clause-point c =
    let st = c.args.self.now.stack.items in
    let n = c.args.count in
    c.settle.ensures.point ∙ ap (settled c.args.code.now.instructions c.args.place) (c.enter.ensures.items ∙ sym (Ticks.pushed n st (mark (Returning c.args.back) ∷ drop n st) c.requires.words))
