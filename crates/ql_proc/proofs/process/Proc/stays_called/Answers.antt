use Rattle.std.proofs.Common.{◌∙◌, length, drop}
use Rattle.ql_code.specs.declared.mark.Mark.TheVariants.{Returning}
use Rattle.ql_proc.proofs.Ticks
use Rattle.ql_proc.proofs.Words
use Rattle.ql_proc.proofs.process.Proc.stays_called.Goals as goal

pub uppermost-requires : goal.uppermost-requires
uppermost-requires c = Words.within c.args.count c.args.self.now.stack.items c.requires

pub returns : goal.returns
returns c =
    let code = c.args.code.now.instructions in
    let st = c.args.self.now.stack.items in
    c.stays.ensures ∙ rw c.uppermost.ensures (Ticks.stays-called code (length code) c.args.place c.args.count st (drop c.args.count st) (Returning c.args.back) c.requires)
